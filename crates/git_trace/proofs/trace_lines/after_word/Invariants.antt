use Rattle.std.proofs.Common.{◌≡◌, ◌-◌, ◌≤◌, length, drop}
use Rattle.git_trace.specs.TraceLines.{after_word}
use Rattle.git_trace.proofs.trace_lines.after_word.Given as goal

-- the word is not before this place
abbrev pub invariant-loop-at : goal.invariant-loop-at
invariant-loop-at l = record {
  within : l.at ≤ length l.line;
  later : after_word l.line ≡ after_word (drop l.at l.line);
}

abbrev pub decreases-loop-at : goal.decreases-loop-at
decreases-loop-at l = length l.line - l.at

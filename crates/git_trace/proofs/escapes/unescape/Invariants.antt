use Rattle.std.proofs.Common.{◌≡◌, ◌+◌, ◌-◌, ◌≤◌, ◌++◌, length, drop}
use Rattle.git_trace.specs.Escapes.{unescaped}
use Rattle.git_trace.proofs.escapes.unescape.Given as goal

-- what stands before this place has been read
abbrev pub invariant-loop-at : goal.invariant-loop-at
invariant-loop-at l = record {
  near : l.at ≤ length l.text + 11;
  read : l.out.items ++ unescaped (drop l.at l.text) ≡ l.fn.out.items ++ unescaped l.text;
}

abbrev pub decreases-loop-at : goal.decreases-loop-at
decreases-loop-at l = length l.text - l.at

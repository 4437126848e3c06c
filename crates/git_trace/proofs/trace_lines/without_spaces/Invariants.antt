use Rattle.std.proofs.Common.{◌≡◌, ◌+◌, ◌-◌, ◌≤◌, length, drop}
use Rattle.std.specs.List.{prefix_len}
use Rattle.git_trace.specs.TraceLines.{is_space}
use Rattle.git_trace.proofs.trace_lines.without_spaces.Given as goal

-- each byte before this place is a space
abbrev pub invariant-loop-count : goal.invariant-loop-count
invariant-loop-count l = record {
  within : l.count ≤ length l.text;
  run : prefix_len is_space l.text ≡ l.count + prefix_len is_space (drop l.count l.text);
}

abbrev pub decreases-loop-count : goal.decreases-loop-count
decreases-loop-count l = length l.text - l.count

use Rattle.std.proofs.Common.{◌≡◌, ◌+◌, ◌-◌, ◌≤◌, length, drop}
use Rattle.std.specs.List.{prefix_len}
use Rattle.git_trace.specs.TraceLines.{is_name_byte}
use Rattle.git_trace.proofs.trace_lines.name_length.Given as goal

-- each byte before this place is one of the name
abbrev pub invariant-loop-count : goal.invariant-loop-count
invariant-loop-count l = record {
  within : l.count ≤ length l.parts;
  run : prefix_len is_name_byte l.parts ≡ l.count + prefix_len is_name_byte (drop l.count l.parts);
}

abbrev pub decreases-loop-count : goal.decreases-loop-count
decreases-loop-count l = length l.parts - l.count

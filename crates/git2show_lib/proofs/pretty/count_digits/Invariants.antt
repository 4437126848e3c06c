use Rattle.std.proofs.Common.{length, ◌-◌, ◌≡◌, ◌+◌, ◌≤◌, drop}
use Rattle.git2show_lib.specs.PrettyLines.{run_length}
use Rattle.git2show_lib.proofs.pretty.count_digits.Given as goal

-- each byte before this one is a digit
abbrev pub invariant-loop-count : goal.invariant-loop-count
invariant-loop-count l = record {
  within : l.count ≤ length l.bytes;
  run : run_length l.bytes ≡ l.count + run_length (drop l.count l.bytes);
}

abbrev pub decreases-loop-count : goal.decreases-loop-count
decreases-loop-count l = length l.bytes - l.count

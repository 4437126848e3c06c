use Rattle.std.proofs.Common.{length, ◌-◌, ◌≡◌, ◌≤◌, ◌++◌, take, drop}
use Rattle.git2show_lib.specs.PrettyLines.{shortened}
use Rattle.git2show_lib.proofs.pretty.shorten.Given as goal

-- what came of the text has been shortened
abbrev pub invariant-loop-at : goal.invariant-loop-at
invariant-loop-at l = record {
  within : l.at ≤ length l.text;
  shorter : l.end ≤ l.at;
  shortened : take l.end l.out ++ shortened (drop l.at l.text) ≡ shortened l.text;
}

abbrev pub decreases-loop-at : goal.decreases-loop-at
decreases-loop-at l = length l.text - l.at

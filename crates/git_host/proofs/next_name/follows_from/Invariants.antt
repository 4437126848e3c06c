use Rattle.std.proofs.Common.{◌-◌, ◌<◌, ◌≤◌, ℕ, length, slice_index, take}
use Rattle.git_names.specs.NextByte.{MayFollow}
use Rattle.git_host.proofs.next_name.follows_from.Given as goal

abbrev pub invariant-loop-at : goal.invariant-loop-at
invariant-loop-at l = record {
  up : l.from ≤ l.at;
  within : l.at ≤ length l.name;
  follow : (k : ℕ) → l.from ≤ k → k < l.at → MayFollow (take k l.name) (slice_index l.name k);
}

abbrev pub decreases-loop-at : goal.decreases-loop-at
decreases-loop-at l = length l.name - l.at

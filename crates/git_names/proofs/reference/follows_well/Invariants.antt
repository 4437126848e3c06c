use Rattle.std.proofs.Common.{ℕ, ◌*◌, ◌<◌, take, slice_index}
use Rattle.git_names.specs.NextByte.{MayFollow}
use Rattle.git_names.specs.Steps.{TakesAtMost}
use Rattle.git_names.proofs.reference.follows_well.Given as goal

abbrev pub invariant-loop-i : goal.invariant-loop-i
invariant-loop-i l = record {
  follow : (k : ℕ) → k < l.i → MayFollow (take k l.text) (slice_index l.text k);
  cost : TakesAtMost (9 * l.i) l.fn.steps l.steps;
}

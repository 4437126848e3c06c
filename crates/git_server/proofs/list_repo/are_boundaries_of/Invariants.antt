use Rattle.std.proofs.Common.{◌≡◌, ℕ, ◌<◌, slice_index_or}
use Rattle.git_msg.specs.declared.Boundary.{Boundary}
use Rattle.git_server.specs.Objects.{object_of}
use Rattle.git_server.proofs.list_repo.are_boundaries_of.Given as goal

abbrev pub invariant-loop-boundary : goal.invariant-loop-boundary
invariant-loop-boundary l = (k : ℕ) (d : Boundary) → k < l.boundary-index → (object_of (slice_index_or l.boundaries k d)).format ≡ l.format

use Rattle.std.proofs.Common.{◌≡◌, ℕ, ◌<◌, slice_index_or}
use Rattle.git_names.specs.ObjectName.{ObjectName}
use Rattle.git_server.proofs.list_repo.are_objects_of.Given as goal

abbrev pub invariant-loop-id : goal.invariant-loop-id
invariant-loop-id l = (k : ℕ) (d : ObjectName × ℕ) → k < l.id-index → (slice_index_or l.objects k d).0.format ≡ l.format

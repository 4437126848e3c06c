use Rattle.std.proofs.Common.{ℕ, ◌<◌, slice_index_or}
use Rattle.git_server.specs.Repository.{Entry, IsNamed, IsOfFormat}
use Rattle.git_server.proofs.list_repo.are_refs_of.Given as goal

abbrev pub invariant-loop-entry : goal.invariant-loop-entry
invariant-loop-entry l = record {
  of_format : (k : ℕ) (d : Entry) → k < l.entry-index → IsOfFormat l.format (slice_index_or l.refs k d);
  named : (k : ℕ) (d : Entry) → k < l.entry-index → IsNamed (slice_index_or l.refs k d).name (slice_index_or l.refs k d).target;
}

use Rattle.std.proofs.Common.{rules}
use Rattle.git_server.specs.Repository.{IsNamed, IsOfFormat}
use Rattle.git_server.proofs.EachSoFar.{each_so_far}
use Rattle.git_server.proofs.list_repo.are_refs_of.Goals as goal

pub loop-entry-preserved : goal.loop-entry-preserved
loop-entry-preserved c =
    let refs = c.args.refs.now in
    let at = c.loop-entry.entry-index in
    let entry = c.entry-item.result in
    record {
      of_format = each_so_far (IsOfFormat c.args.format) refs at entry (search rules) c.entry-item.is (search rules) c.loop-entry.invariant.of_format;
      named = each_so_far (λ ref. IsNamed ref.name ref.target) refs at entry (search rules) c.entry-item.is c.is_of.ensures.named c.loop-entry.invariant.named;
    }

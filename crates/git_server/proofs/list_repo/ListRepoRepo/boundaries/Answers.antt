use Rattle.std.proofs.Common.{sym, ap, ◌∙◌, length}
use Rattle.git_server.proofs.BoundaryLines.{announced_for}
use Rattle.git_server.proofs.list_repo.ListRepoRepo.boundaries.Goals as goal

pub returns-then-deepens : goal.returns-then-deepens
returns-then-deepens g c =
    let q = c.args.request.now.asked in
    c.count_announced.ensures
    ∙ sym (ap length (announced_for _ _ q _ (sym c.deepens.ensures ∙ c.if-deepens.true) c.deref.ensures.value c.shallows.ensures))

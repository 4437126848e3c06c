use Rattle.std.proofs.Common.{arith, sym, ap, ◌∙◌, inl, inr, List, length, slice_get}
use Rattle.std.proofs.lemmas.Option.{slice_get_cases}
use Rattle.git_msg.specs.declared.Boundary.{Boundary}
use Rattle.git_server.specs.AnnouncedBoundary.{announced_lines}
use Rattle.git_server.proofs.BoundaryLines.{announced_where_some}
use Rattle.git_server.proofs.list_repo.ListRepoRepo.boundary.Goals as goal

pub unreachable-requires : goal.unreachable-requires
unreachable-requires g c =
    let announced = announced_where_some _ _ c.args.request.now.asked _ c.args.i c.deref.ensures.value c.shallows.ensures c.requires in
    let none = sym c.announced_at.ensures ∙ c.in-None.is in
    elim (slice_get_cases (announced_lines c.deref.result.now c.shallows.result.now) c.args.i).1 [
      | inl found ↦ let here = found.2 in absurd (cc)
      | inr past ↦ omega (arith, c.requires, ap length announced, past.0)
    ]

pub returns : goal.returns
returns g c =
    let announced = announced_where_some _ _ c.args.request.now.asked _ c.args.i c.deref.ensures.value c.shallows.ensures c.requires in
    ap (λ (lines : List Boundary). slice_get lines c.args.i) announced ∙ sym c.in-Some.ensures

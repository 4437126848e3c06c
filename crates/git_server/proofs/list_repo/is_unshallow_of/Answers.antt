use Rattle.std.proofs.Common.{rules, ap, sym, ◌∙◌}
use Rattle.std.specs.Ordering.{is_eq}
use Rattle.std.proofs.lemmas.Iterator.{YieldsList-from_slice}
use Rattle.std.proofs.lemmas.Iterator.Search.{any_from_yields_List}
use Rattle.git_names.specs.ObjectName.{ObjectName}
use Rattle.git_server.specs.Objects.{object_cmp}
use Rattle.git_server.specs.AnnouncedBoundary.{is_unshallow_line}
use Rattle.git_server.proofs.list_repo.is_unshallow_of.Goals as goal

pub returns-in-Unshallow : goal.returns-in-Unshallow
returns-in-Unshallow c =
    let shallows = c.args.shallows.now in
    any_from_yields_List (λ (shallow : ObjectName). is_eq (object_cmp shallow c.in-Unshallow.id)) _ _ _ c.any.ensures.ran
    (YieldsList-from_slice shallows (cc)) (λ x r q k. search rules)
    ∙ ap (is_unshallow_line shallows) (sym c.in-Unshallow.is)

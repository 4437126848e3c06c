use Rattle.std.proofs.Common.{rules, ap, sym, ◌∙◌}
use Rattle.std.specs.Ordering.{is_eq}
use Rattle.std.proofs.lemmas.Iterator.{YieldsList-from_slice}
use Rattle.std.proofs.lemmas.Iterator.Search.{any_from_yields_List}
use Rattle.git_names.specs.ObjectName.{ObjectName}
use Rattle.git_server.specs.Objects.{object_cmp}
use Rattle.git_host.specs.FetchFacts.{may_have}
use Rattle.git_host.proofs.fetch_answer.may_have.Goals as goal

pub returns-in-Unshallow : goal.returns-in-Unshallow
returns-in-Unshallow c =
    let shallows = c.args.shallows.now in
    any_from_yields_List (λ (shallow : ObjectName). is_eq (object_cmp shallow c.in-Unshallow.id)) _ _ _ c.any.ensures.ran
    (YieldsList-from_slice shallows (cc)) (λ x r q k. search rules)
    ∙ ap (may_have shallows) (sym c.in-Unshallow.is)

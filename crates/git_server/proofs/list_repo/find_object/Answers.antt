use Rattle.std.proofs.Common.{rules, ℕ}
use Rattle.std.specs.declared.cmp.Ordering.{Ordering}
use Rattle.std.proofs.lemmas.Fn.{always_returns_same}
use Rattle.git_names.specs.ObjectName.{ObjectName}
use Rattle.git_server.specs.Objects.{object_cmp}
use Rattle.git_server.specs.SameObjects.{same_object}
use Rattle.git_server.proofs.NameOrder.{none_is, object_total, ranks_rise}
use Rattle.git_server.proofs.list_repo.find_object.Goals as goal

pub returns-in-Ok : goal.returns-in-Ok
returns-in-Ok c =
    let id : ObjectName = c.args.id.now in
    let against : ObjectName × ℕ → Ordering = λ object. object_cmp object.0 id in
    let found = c.in-Ok.ensures.position against (always_returns_same _ _ _ (λ a r g called. (search rules, search rules))) in
    (c.in-Ok.ensures.bound, (λ d. same_object _ id (found d)))

pub returns-in-Err : goal.returns-in-Err
returns-in-Err c =
    let id : ObjectName = c.args.id.now in
    let against : ObjectName × ℕ → Ordering = λ object. object_cmp object.0 id in
    let found = c.in-Err.ensures.position against (always_returns_same _ _ _ (λ a r g called. (search rules, search rules))) in
    let by : ObjectName × ℕ → ObjectName = λ object. object.0 in
    none_is object_total by _ id _ (found (ranks_rise object_total by _ id c.requires))

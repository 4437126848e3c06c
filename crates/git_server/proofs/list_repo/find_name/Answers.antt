use Rattle.std.proofs.Common.{rules, ℕ, List}
use Rattle.std.specs.Ordering.{nat_cmp}
use Rattle.std.specs.Cmp.Lexicographic.{slice_cmp}
use Rattle.std.specs.declared.cmp.Ordering.{Ordering}
use Rattle.std.proofs.lemmas.Fn.{always_returns_same}
use Rattle.git_server.specs.Repository.{Entry}
use Rattle.git_server.specs.SameObjects.{same_name}
use Rattle.git_server.proofs.NameOrder.{none_is, ranks_rise}
use Rattle.std.proofs.lemmas.Cmp.{nat_list_cmp_total}
use Rattle.git_server.proofs.list_repo.find_name.Goals as goal

pub returns-in-Ok : goal.returns-in-Ok
returns-in-Ok c =
    let name : List ℕ = c.args.name.now in
    let against : Entry → Ordering = λ entry. slice_cmp nat_cmp entry.name name in
    let found = c.in-Ok.ensures.position against (always_returns_same _ _ _ (λ a r g called. (search rules, search rules))) in
    (c.in-Ok.ensures.bound, (λ d. same_name _ name (found d)))

pub returns-in-Err : goal.returns-in-Err
returns-in-Err c =
    let name : List ℕ = c.args.name.now in
    let against : Entry → Ordering = λ entry. slice_cmp nat_cmp entry.name name in
    let found = c.in-Err.ensures.position against (always_returns_same _ _ _ (λ a r g called. (search rules, search rules))) in
    let by : Entry → List ℕ = λ entry. entry.name in
    none_is nat_list_cmp_total by _ name _ (found (ranks_rise nat_list_cmp_total by _ name c.requires))

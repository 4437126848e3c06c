use Rattle.std.proofs.Common.{rules, Bool}
use Rattle.std.proofs.lemmas.List.Sorted.{answers_always}
use Rattle.git_server.specs.Repository.{Entry, comes_before}
use Rattle.git_server.proofs.Adjacent.{adjacent_answer}
use Rattle.git_server.proofs.list_repo.are_sorted_refs.Goals as goal

pub returns : goal.returns
returns c =
    let e : Entry → Entry → Bool = λ a b. comes_before a.name b.name in
    adjacent_answer e _ _ (c.is_sorted_by.ensures.cases e (answers_always _ _ _ (λ f a r g called. search rules)))

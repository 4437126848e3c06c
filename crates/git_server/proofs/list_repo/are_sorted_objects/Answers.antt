use Rattle.std.proofs.Common.{rules, Bool, ℕ}
use Rattle.std.proofs.lemmas.List.Sorted.{answers_always}
use Rattle.git_names.specs.ObjectName.{ObjectName}
use Rattle.git_server.specs.Objects.{precedes}
use Rattle.git_server.proofs.Adjacent.{adjacent_answer}
use Rattle.git_server.proofs.list_repo.are_sorted_objects.Goals as goal

pub returns : goal.returns
returns c =
    let e : ObjectName × ℕ → ObjectName × ℕ → Bool = λ a b. precedes a.0 b.0 in
    adjacent_answer e _ _ (c.is_sorted_by.ensures.cases e (answers_always _ _ _ (λ f a r g called. search rules)))

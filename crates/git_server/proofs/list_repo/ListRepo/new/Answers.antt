use Rattle.std.proofs.Common.{rules, inl, inr, refl}
use Rattle.git_server.proofs.list_repo.ListRepo.new.Goals as goal
use Rattle.git_server.proofs.list_repo.ListRepo.new.Goals.{then-not-are_refs_of-via-then-not-are_refs_of}
use Rattle.git_server.proofs.list_repo.ListRepo.new.Goals.{then-not-are_refs_of-via-else-not-are_refs_of+then-not-are_objects_of}
use Rattle.git_server.proofs.list_repo.ListRepo.new.Goals.{then-not-are_refs_of-via-else-not-are_refs_of+else-not-are_objects_of+then-not-are_boundaries_of}

pub returns-then-not-are_refs_of : goal.returns-then-not-are_refs_of
returns-then-not-are_refs_of c = inr (
  search rules,
  inr (
    search rules,
    inl (
      refl,
      elim c.then-not-are_refs_of.branch [
        | then-not-are_refs_of-via-then-not-are_refs_of w ↦ (λ h. search rules)
        | then-not-are_refs_of-via-else-not-are_refs_of+then-not-are_objects_of w ↦ (λ h.
            let announced = w.are_objects_of.ensures.1 (rw w.deref-else-not-are_refs_of.ensures.value h.by_objects) in
            search rules)
        | then-not-are_refs_of-via-else-not-are_refs_of+else-not-are_objects_of+then-not-are_boundaries_of w ↦ (λ h.
            let announced = w.are_boundaries_of.ensures.1 (rw w.deref-else-not-are_objects_of.ensures.value h.by_boundaries) in
            search rules)
      ],
    ),
  ),
)

pub returns-then-not-is_unborn_head : goal.returns-then-not-is_unborn_head
returns-then-not-is_unborn_head c = inr (search rules, inr (search rules, inr (search rules, inl (refl, search rules))))

-- What a call that makes something reports, by whether there was memory for it.
use Rattle.std.proofs.Common.{◌≡◌, ◌∙◌, ℕ, Option, Some, None, refl, ap, inl, inr, subst, sym}
use Rattle.std.specs.Prelude.{MatchOption}
use Rattle.gitwire.specs.Calls.{IsMade}
use Rattle.gitwire.specs.RequestAnswers.{HasOrNone}
use Rattle.gitwire.specs.Answers.{what_number}
use Rattle.gitwire.specs.declared.answer.What.{What}
use Rattle.gitwire.specs.declared.answer.What.TheVariants.{Done, OutOfMemory}

pub made : {X : Type 0} (answer : What) (number : ℕ) (boxed value : X) (new : Option X)
    → number ≡ what_number answer → boxed ≡ value → IsMade answer boxed new → HasOrNone number value new
made answer number boxed value None by same memory = inr (by ∙ ap what_number memory, refl)
made answer number boxed value (Some _) by same (done, is) = inl (by ∙ ap what_number done, ap Some (is ∙ same))

-- the same where something holds of what is made
pub made_so : {X : Type 0} (Holds : X → Type 0) (answer : What) (number : ℕ) (boxed value : X) (new : Option X)
    → number ≡ what_number answer → boxed ≡ value → IsMade answer boxed new → Holds value
    → MatchOption new (number ≡ what_number OutOfMemory) (λ x. (number ≡ what_number Done) × Holds x)
made_so Holds answer number boxed value None by same memory holds = by ∙ ap what_number memory
made_so Holds answer number boxed value (Some _) by same (done, is) holds = (by ∙ ap what_number done, subst Holds (sym (is ∙ same)) holds)

-- or memory ran out, and nothing is made
pub none_made : {X : Type 0} (Holds : X → Type 0) (number : ℕ) (new : Option X) → new ≡ None → number ≡ what_number OutOfMemory
    → MatchOption new (number ≡ what_number OutOfMemory) Holds
none_made Holds number new none is = subst (λ (o : Option _). MatchOption o (number ≡ what_number OutOfMemory) Holds) (sym none) is

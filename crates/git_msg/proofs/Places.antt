-- The first index at which a test passes.
use Rattle.std.proofs.Common.{◌≡◌, ℕ, Bool, true, false, List, length, get_or, Option, Some, None, arith, refl, rules}
use Rattle.std.proofs.lemmas.Grind.{common_steps}
use Rattle.std.proofs.lemmas.List.Sums.{position_or_len_is}
use Rattle.std.specs.List.{position, position_or_len}
use Rattle.bstr.specs.Find.{IsFirst, Passes}

no_pass : (b : Bool) → (b ≡ true → ⊥) → b ≡ false
no_pass true fails = absurd (fails refl)
no_pass false fails = refl

pub first_place : (test : ℕ → Bool) (hay : List ℕ) (r : Option ℕ) → IsFirst (Passes test hay) 0 (length hay) r → r ≡ position test hay
first_place test hay None none =
    let all : position_or_len test hay ≡ length hay =
    position_or_len_is test hay (length hay) 0 (omega arith)
    (λ k low. no_pass (test (get_or hay k 0)) (none k (omega arith) low)) (λ below. absurd (omega (arith, below))) in
    grind (arith, common_steps, all)
first_place test hay (Some k) found = search (rules, position_or_len_is, no_pass)

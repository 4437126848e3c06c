-- A list with one item replaced, and lists without items.
use Rattle.std.proofs.Common.{arith, ◌≡◌, ℕ, ◌<◌, ◌==◌, false, List, [], ◌∷◌, get_or, if◌then◌else◌, inl, inr, length, refl, suc, zero}
use Rattle.std.proofs.Common.{Option, Some, None}
use Rattle.std.specs.List.{list_any}
use Rattle.std.specs.Prelude.{set, sum_by}
use Rattle.std.proofs.lemmas.Bool.{cases_eq}
use Rattle.std.proofs.lemmas.Grind.{common_steps, get_or-set_at}
use Rattle.std.proofs.lemmas.List.{get_or-set_other}
use Rattle.std.proofs.lemmas.List.Sums.{sum_by-cons}
use Rattle.git_msg.specs.Asked.{is_given}

-- one item of a list is replaced
pub replaced : {X : Type 0} (xs : List X) (i j : ℕ) (x d : X) → i < length xs → get_or (set xs i x) j d ≡ (if j == i then x else get_or xs j d)
replaced xs i j x d within = elim (cases_eq j i) [
  | inl same ↦ grind (arith, common_steps, same, get_or-set_at xs i j x d same within)
  | inr other ↦ grind (arith, common_steps, other, get_or-set_other xs i j x d other)
]

-- no list has an item
no_items : {X : Type 0} (xs : List X) → length xs ≡ 0 → xs ≡ []
no_items [] none = refl
no_items (x ∷ xs) none = absurd (omega (arith, none))

pub nothing_at : {X : Type 0} (lists : List (List X)) (place : ℕ) → sum_by length lists ≡ 0 → get_or lists place [] ≡ []
nothing_at [] place none = refl
nothing_at (l ∷ lists) zero none = no_items l (omega (arith, none, sum_by-cons length l lists))
nothing_at (l ∷ lists) (suc place) none = nothing_at lists place (omega (arith, none, sum_by-cons length l lists))

-- and none has a value
pub none_given : {X : Type 0} (xs : List (Option X)) (place : ℕ) → list_any is_given xs ≡ false → get_or xs place None ≡ None
none_given [] place none = refl
none_given (None ∷ xs) zero none = refl
none_given (None ∷ xs) (suc place) none = none_given xs place none
none_given (Some x ∷ xs) place none = absurd (cc)

-- A move of one input or output, among all numbers.
use Rattle.std.proofs.Common.{◌≡◌, ◌≢◌, ℕ, eqb, Bool, true, false, if◌then◌else◌, List, [], ◌++◌, refl, sym, subst, append-nil}
use Rattle.std.proofs.lemmas.Bool.{eqb-true, eqb-false}

by_number : (k n : ℕ) (b : Bool) → eqb k n ≡ b → {T : Type 0} (x y : T) (P : T → Type 0) → (k ≡ n → P x) → (k ≢ n → P y) → P (if b then x else y)
by_number k n true is x y P here other = here (eqb-true k n is)
by_number k n false is x y P here other = other (eqb-false k n is)

-- what holds of the bytes at the number that they have, and of none at any other
pub at_number : (k n : ℕ) (bytes : List ℕ) (P : List ℕ → Type 0) → (k ≡ n → P bytes) → (k ≢ n → P []) → P ((if (eqb k n) then bytes else []) ++ [])
at_number k n bytes P here other =
    subst P (sym (append-nil (if (eqb k n) then bytes else []))) (by_number k n (eqb k n) refl bytes [] P here other)

pub over_number : (k n : ℕ) (over : Bool) (P : Bool → Type 0) → (k ≡ n → P true) → (k ≢ n → P over) → P (if (eqb k n) then true else over)
over_number k n over P here other = by_number k n (eqb k n) refl true over P here other

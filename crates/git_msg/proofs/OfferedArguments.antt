-- Arguments that are looked at one by one.
use Rattle.std.proofs.Common.{◌≡◌, ℕ, ◌+◌, Some, None, List, sym, subst, take, arith}
use Rattle.std.specs.Prelude.{All, slice_get}
use Rattle.std.proofs.lemmas.Grind.{common_steps}
use Rattle.std.proofs.lemmas.List.Elements.{All-more}
use Rattle.std.proofs.lemmas.Option.{gets, get_or_from_slice_get, slice_get_within}

-- one more has the property
pub all_more : {X : Type 0} (P : X → Type 0) (xs : List X) (i : ℕ) (x : X) → All P (take i xs) → slice_get xs i ≡ Some x → P x → All P (take (i + 1) xs)
all_more P xs i x h at p =
    All-more P xs i x (slice_get_within xs i x at) h (subst P (sym (get_or_from_slice_get xs i x x at)) p)

taken_all : {X : Type 0} (xs : List X) (i : ℕ) → slice_get xs i ≡ None → take i xs ≡ xs
taken_all xs i at = grind (arith, common_steps, gets)

-- there is no further one
pub all_of_them : {X : Type 0} (P : X → Type 0) (xs : List X) (i : ℕ) → All P (take i xs) → slice_get xs i ≡ None → All P xs
all_of_them P xs i h at = subst (All P) (taken_all xs i at) h

-- What holds of each element so far, and of the next.
use Rattle.std.proofs.Common.{◌≡◌, ℕ, ◌+◌, ◌<◌, List, length, slice_index_or, sym, ◌∙◌, subst, inl, inr, arith}
use Rattle.std.proofs.lemmas.Bool.{cases_lt}
use Rattle.std.proofs.lemmas.List.{get_or_default}

pub each_so_far : {X : Type 0} (P : X → Type 0) (xs : List X) (i : ℕ) (x : X) → i < length xs → x ≡ slice_index_or xs i x → P x
    → ((k : ℕ) (d : X) → k < i → P (slice_index_or xs k d)) → (k : ℕ) (d : X) → k < i + 1 → P (slice_index_or xs k d)
each_so_far P xs i x within here holds so_far k d below =
    elim (cases_lt k i) [
      | inl low ↦ so_far k d low
      | inr high ↦ let at : k ≡ i = omega arith in
          subst (λ (n : ℕ). P (slice_index_or xs n d)) (sym at) (subst P (here ∙ get_or_default xs i x d within) holds)
    ]

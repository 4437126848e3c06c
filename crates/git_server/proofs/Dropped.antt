-- What is left of a list from a place on.
use Rattle.std.proofs.Common.{◌≡◌, ℕ, ◌+◌, ◌<◌, Bool, true, Some, None, List, [], ◌∷◌, length, drop, slice_get, get_or, refl, sym, ap, ◌∙◌, inl, inr}
use Rattle.std.proofs.Common.{add-one, drop-cons}
use Rattle.std.specs.List.{filter}
use Rattle.std.proofs.lemmas.List.{drop_all, get_or_default}
use Rattle.std.proofs.lemmas.Option.{slice_get_within, slice_get_cases, get_or_from_slice_get}

module _ {X : Type 0} (xs : List X) (at : ℕ) where
  -- what is there, and what comes after it
  pub dropped_at : (x : X) → at < length xs → drop at xs ≡ get_or xs at x ∷ drop (at + 1) xs
  dropped_at x within = rw (add-one, drop-cons xs at x) refl

  pub dropped : (x : X) → slice_get xs at ≡ Some x → drop at xs ≡ x ∷ drop (at + 1) xs
  dropped x here =
      dropped_at x (slice_get_within xs at x here) ∙ ap (λ (y : X). y ∷ drop (at + 1) xs) (get_or_from_slice_get xs at x x here)

  -- nothing, where nothing is there
  pub none_dropped : slice_get xs at ≡ None → drop at xs ≡ []
  none_dropped none =
      elim (slice_get_cases xs at).1 [
        | inl (x, within, here, same) ↦ absurd (cc (none, here))
        | inr (most, is) ↦ drop_all at xs most
      ]

  -- what passes a test there comes first of all those that pass it
  pub first_kept : (p : X → Bool) (x d : X) → at < length xs → x ≡ get_or xs at x → p x ≡ true
      → filter p (drop at xs) ≡ get_or xs at d ∷ filter p (drop (at + 1) xs)
  first_kept p x d within here passes =
      let test : p (get_or xs at d) ≡ true = ap p (get_or_default xs at d x within ∙ sym here) ∙ passes in
      let one : filter p (get_or xs at d ∷ drop (at + 1) xs) ≡ get_or xs at d ∷ filter p (drop (at + 1) xs) = rw test refl in
      ap (filter p) (dropped_at d within) ∙ one

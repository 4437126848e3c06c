-- A search for the first element of a key finds the only one, since the keys rise strictly.
use Rattle.std.proofs.Common.{◌≡◌, ◌≢◌, ◌↔◌, ℕ, suc, zero, ◌+◌, ◌<◌, Bool, true, Option, Some, None, List, [], ◌∷◌, All, Any, length, slice_index_or}
use Rattle.std.proofs.Common.{refl, sym, ap, ◌∙◌, arith, inl, inr, if◌then◌else◌}
use Rattle.std.specs.Prelude.{MatchOption}
use Rattle.std.specs.Cmp.{IsTotalOrder}
use Rattle.std.specs.List.{AllAdjacentBelow}
use Rattle.std.specs.Ordering.{is_lt, ordering_index, ordering_reverse}
use Rattle.std.specs.declared.cmp.Ordering.{Ordering}
use Rattle.std.specs.declared.cmp.Ordering.TheVariants.{Less, Equal, Greater}
use Rattle.std.proofs.lemmas.Bool.{cases_Bool}
use Rattle.std.proofs.lemmas.Cmp.{tied_itself}
use Rattle.std.proofs.lemmas.List.Elements.{All-tail}
use Rattle.git_server.proofs.NameOrder.{ranks_rise}

is_less : (o : Ordering) → is_lt o ≡ true → o ≡ Less
is_less Less h = refl
is_less Equal h = cc
is_less Greater h = cc

-- first: what is found of the first element of the key n, which the test finds
module _ {X K V : Type 0} {R : K → K → Ordering} (total : IsTotalOrder R) (key : X → K) (announced : X → V) (n : K)
    (test : X → Bool) (announces : (x : X) → test x ≡ true ↔ key x ≡ n)
    (first : List X → Option V) (ends : first [] ≡ None)
    (steps : (x : X) (xs : List X) → first (x ∷ xs) ≡ (if test x then Some (announced x) else first xs)) where
  abbrev Rises : List X → Type 0
  Rises xs = AllAdjacentBelow (λ a b. is_lt (R (key a) (key b)) ≡ true) xs (length xs)

  -- none of the keys after the first is the first
  after_first : (x : X) (xs : List X) → Rises (x ∷ xs) → (k : ℕ) (y : X) → k < length xs → slice_index_or xs k y ≡ y → key y ≢ key x
  after_first x xs rising k y within here same =
      let second = slice_index_or xs 0 y in
      let ranks = ranks_rise total key (x ∷ xs) (key x) rising 1 (suc k) y (omega arith) (omega arith) in
      let above : R (key second) (key x) ≡ Greater =
      total.antisymm (key second) (key x) ∙ ap ordering_reverse (is_less _ (rising 0 y (omega arith))) in
      let tied : R (key (slice_index_or xs k y)) (key x) ≡ Equal = ap (λ z. R (key z) (key x)) here ∙ rw same (tied_itself total (key x)) in
      omega (arith, ap ordering_index above, ap ordering_index tied, ranks)

  rest_rises : (x : X) (xs : List X) → Rises (x ∷ xs) → Rises xs
  rest_rises x xs rising k d below =
      let next : suc k + 1 ≡ suc (k + 1) = omega arith in
      let rises = rising (suc k) d (omega arith) in
      rw next at rises

  -- the first of the key, where the keys are compared
  first_is : (x : X) (xs : List X) (found : Option V) → (key x ≡ n → Some (announced x) ≡ found) → (key x ≢ n → first xs ≡ found)
      → first (x ∷ xs) ≡ found
  first_is x xs found here later =
      steps x xs ∙ elim (cases_Bool (test x)) [
        | inl same ↦ rw same (here ((announces x).0 same))
        | inr other ↦ rw other (later (λ same. let is = (announces x).1 same in cc))
      ]

  pub only_is : (xs : List X) (found : Option V) → Rises xs
      → MatchOption found (All (λ x. key x ≢ n) xs) (λ v. Any (λ x. (key x ≡ n) × (announced x ≡ v)) xs) → first xs ≡ found
  only_is [] None rising none = ends
  only_is [] (Some v) rising (k, x, within, at, same) = absurd (omega arith)
  only_is (x ∷ xs) None rising none =
      first_is x xs None (λ same. absurd (none 0 x (omega arith) same))
      (λ other. only_is xs None (rest_rises x xs rising) (All-tail (λ y. key y ≢ n) x xs none))
  only_is (x ∷ xs) (Some v) rising (zero, y, within, at, same) =
      first_is x xs (Some v) (λ here. ap Some (ap announced at ∙ same.1)) (λ other. absurd (other (ap key at ∙ same.0)))
  only_is (x ∷ xs) (Some v) rising (suc k, y, within, at, same) =
      first_is x xs (Some v) (λ here. absurd (after_first x xs rising k y (omega arith) at (same.0 ∙ sym here)))
      (λ other. only_is xs (Some v) (rest_rises x xs rising) (k, y, omega arith, at, same))

-- Lists that rise, with one more element.
use Rattle.std.proofs.Common.{arith, ◌≡◌, ℕ, ◌+◌, ◌-◌, ◌<◌, List, [], ◌∷◌, ◌++◌, subst, length, get_or, inl, inr}
use Rattle.std.specs.List.{AllAdjacentBelow}
use Rattle.std.proofs.lemmas.Bool.{cases_lt}
use Rattle.std.proofs.lemmas.Grind.{common_steps}

module _ {X : Type 0} where
  pub front_same : (xs : List X) (x : X) (k : ℕ) (d : X) → k < length xs → get_or (xs ++ x ∷ []) k d ≡ get_or xs k d
  front_same xs x k d h = grind (arith, common_steps)

  pub last_is : (xs : List X) (x : X) (k : ℕ) (d : X) → k ≡ length xs → get_or (xs ++ x ∷ []) k d ≡ x
  last_is xs x k d h = grind (arith, common_steps)

  length_more : (xs : List X) (x : X) → length (xs ++ x ∷ []) ≡ length xs + 1
  length_more xs x = grind (arith, common_steps)

  pub rising_more : (R : X → X → Type 0) (xs : List X) (x : X) → AllAdjacentBelow R xs (length xs)
      → ((d : X) → 0 < length xs → R (get_or xs (length xs - 1) d) x) → AllAdjacentBelow R (xs ++ x ∷ []) (length (xs ++ x ∷ []))
  rising_more R xs x rising last k d below =
      let count = length_more xs x in
      elim (cases_lt (k + 1) (length xs)) [
        | inl low ↦ rw (front_same xs x k d (omega (arith, low))) (rw (front_same xs x (k + 1) d low) (rising k d low))
        | inr high ↦
            let at : k ≡ length xs - 1 = omega (arith, high, below, count) in
            let end : k + 1 ≡ length xs = omega (arith, high, below, count) in
            rw (front_same xs x k d (omega (arith, end))) (rw (last_is xs x (k + 1) d end) (rw at (last d (omega (arith, end)))))
      ]

  pub last_rises : (R : X → X → Type 0) (xs : List X) (x : X) → AllAdjacentBelow R (xs ++ x ∷ []) (length (xs ++ x ∷ []))
      → (d : X) → 0 < length xs → R (get_or xs (length xs - 1) d) x
  last_rises R xs x rising d some =
      let count = length_more xs x in
      let end : length xs - 1 + 1 ≡ length xs = omega (arith, some) in
      let h = rising (length xs - 1) d (omega (arith, some, count)) in
      let there : R (get_or xs (length xs - 1) d) (get_or (xs ++ x ∷ []) (length xs - 1 + 1) d) =
      subst (λ (y : X). R y (get_or (xs ++ x ∷ []) (length xs - 1 + 1) d)) (front_same xs x (length xs - 1) d (omega (arith, some))) h in
      subst (λ (y : X). R (get_or xs (length xs - 1) d) y) (last_is xs x (length xs - 1 + 1) d end) there

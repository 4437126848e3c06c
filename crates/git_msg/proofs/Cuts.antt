-- Two cuts of one list are at the same place, or one comes before the other.
use Rattle.std.proofs.Common.{◌≡◌, ◌⊎◌, List, [], ◌∷◌, ◌++◌, inl, inr, refl}

module _ {X : Type 0} where
  -- the list is cut before each of these
  abbrev pub Cuts : List X → List X → X → X → List X → List X → Type 0
  Cuts xs ys x y more others =
      ((xs ≡ ys) × (x ≡ y) × (more ≡ others))
      ⊎ (((mid : List X) × (xs ≡ ys ++ y ∷ mid) × (others ≡ mid ++ x ∷ more)) ⊎ ((mid : List X) × (ys ≡ xs ++ x ∷ mid) × (more ≡ mid ++ y ∷ others)))

  cuts_more : (a b : X) (xs ys : List X) (x y : X) (more others : List X) → a ≡ b → Cuts xs ys x y more others → Cuts (a ∷ xs) (b ∷ ys) x y more others
  cuts_more a b xs ys x y more others same (inl here) = inl (cc, here.1, here.2)
  cuts_more a b xs ys x y more others same (inr (inl (mid, is, left))) = inr (inl (mid, cc, left))
  cuts_more a b xs ys x y more others same (inr (inr (mid, is, left))) = inr (inr (mid, cc, left))

  pub two_cuts : (xs ys : List X) (x y : X) (more others : List X) → xs ++ x ∷ more ≡ ys ++ y ∷ others → Cuts xs ys x y more others
  two_cuts [] [] x y more others e = inl (refl, cc, cc)
  two_cuts [] (b ∷ ys) x y more others e = inr (inr (ys, cc, cc))
  two_cuts (a ∷ xs) [] x y more others e = inr (inl (xs, cc, cc))
  two_cuts (a ∷ xs) (b ∷ ys) x y more others e = cuts_more a b xs ys x y more others (cc) (two_cuts xs ys x y more others (cc))

  pub not_empty : (xs : List X) (x : X) (more : List X) → [] ≡ xs ++ x ∷ more → ⊥
  not_empty [] x more e = cc
  not_empty (a ∷ xs) x more e = cc

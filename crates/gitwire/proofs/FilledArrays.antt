-- An array that is filled from its front, one place after another.
use Rattle.std.proofs.Common.{arith, ◌≡◌, ◌∙◌, ℕ, suc, ◌+◌, ◌<◌, List, [], ◌∷◌, ◌++◌, length, drop, get_or, set, sym, ap, length-append, append_assoc}
use Rattle.std.proofs.Math.Seq.{drop-cons, set-append_seam}

module _ {X : Type 0} where
  -- the place after those that are filled gets an element
  pub filled_place : (base listed : List X) (now next : List X) (count : ℕ) (x : X) → count ≡ length listed → count < length base
      → now ≡ listed ++ drop (length listed) base → next ≡ set now count x
      → next ≡ (listed ++ x ∷ []) ++ drop (length (listed ++ x ∷ [])) base
  filled_place base listed now next count x counts within is sets =
      let more : length (listed ++ x ∷ []) ≡ length listed + 1 = length-append listed (x ∷ []) in
      let one : suc (length listed) ≡ length listed + 1 = omega arith in
      let there : drop (length listed) base ≡ get_or base (length listed) x ∷ drop (length listed + 1) base =
      drop-cons base (length listed) x (omega (arith, counts, within))
      ∙ ap (λ (n : ℕ). get_or base (length listed) x ∷ drop n base) one in
      let rest : List X = drop (length listed + 1) base in
      let placed : set (listed ++ drop (length listed) base) count x ≡ listed ++ x ∷ rest =
      ap (λ (n : ℕ). set (listed ++ drop (length listed) base) n x) counts
      ∙ ap (λ (l : List X). set (listed ++ l) (length listed) x) there
      ∙ set-append_seam listed (get_or base (length listed) x) rest x in
      let joined : listed ++ x ∷ rest ≡ (listed ++ x ∷ []) ++ drop (length (listed ++ x ∷ [])) base =
      sym (append_assoc listed (x ∷ []) rest) ∙ ap (λ (n : ℕ). (listed ++ x ∷ []) ++ drop n base) (sym more) in
      sets ∙ ap (λ (l : List X). set l count x) is ∙ placed ∙ joined

-- A payload and its text.
use Rattle.std.proofs.Common.{◌≡◌, ◌≢◌, ◌⊎◌, inl, inr, ℕ, List, [], ◌∷◌, ◌++◌, arith, refl, sym, ap, subst}
use Rattle.std.proofs.lemmas.Bool.{cases_eq}
use Rattle.std.proofs.lemmas.Grind.{common_steps}
use Rattle.git_pkt.specs.Packets.{text_of}

-- a line feed at the end is taken off
pub text_of-line_end : (t : List ℕ) → text_of (t ++ 10 ∷ []) ≡ t
text_of-line_end t = grind (arith, common_steps)

-- another last byte stays
pub text_of-other : (t : List ℕ) (c : ℕ) → c ≢ 10 → text_of (t ++ c ∷ []) ≡ t ++ c ∷ []
text_of-other t c h = grind (arith, common_steps)

pub record Snoc (bytes : List ℕ) : Type 0 where
  pub front : List ℕ
  pub last : ℕ
  pub is : bytes ≡ front ++ last ∷ []

ends : (b : ℕ) (bytes : List ℕ) → Snoc (b ∷ bytes)
ends b [] = record { front = []; last = b; is = refl }
ends b (c ∷ bytes) =
    let before = ends c bytes in
    record { front = b ∷ before.front; last = before.last; is = ap (λ (l : List ℕ). b ∷ l) before.is }

text_of-snoc : (t : List ℕ) (c : ℕ) → (text_of (t ++ c ∷ []) ≡ t ++ c ∷ []) ⊎ (t ++ c ∷ [] ≡ text_of (t ++ c ∷ []) ++ 10 ∷ [])
text_of-snoc t c = elim (cases_eq c 10) [
  | inl same ↦ inr (subst (λ (n : ℕ). t ++ n ∷ [] ≡ text_of (t ++ n ∷ []) ++ 10 ∷ []) (sym same) (ap (λ (l : List ℕ). l ++ 10 ∷ []) (sym (text_of-line_end t))))
  | inr other ↦ inl (text_of-other t c other)
]

pub text_loses_a_line_end : (bytes : List ℕ) → (text_of bytes ≡ bytes) ⊎ (bytes ≡ text_of bytes ++ 10 ∷ [])
text_loses_a_line_end [] = inl refl
text_loses_a_line_end (b ∷ bytes) =
    let e = ends b bytes in
    subst (λ (l : List ℕ). (text_of l ≡ l) ⊎ (l ≡ text_of l ++ 10 ∷ [])) (sym e.is) (text_of-snoc e.front e.last)

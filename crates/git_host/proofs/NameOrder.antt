-- The order of two texts that begin alike.
use Rattle.std.proofs.Common.{arith, ◌≡◌, ◌≢◌, ℕ, zero, suc, ◌<◌, ◌≤◌, true, false, List, [], ◌∷◌, length, slice_index, nat_lt, refl, sym, ap, ◌∙◌}
use Rattle.std.proofs.Common.{inl, inr}
use Rattle.std.proofs.lemmas.Bool.{cases_lt}
use Rattle.std.specs.Cmp.{nat_cmp_is}
use Rattle.std.specs.Cmp.Lexicographic.{slice_cmp}
use Rattle.std.proofs.Common.{Ordering, Less, Equal, Greater}
use Rattle.std.specs.Ordering.{is_lt, nat_cmp, ordering_then}
use Rattle.git_server.specs.Repository.{comes_before}

-- the first bytes are equal, or one is less
alike_first : (x y : ℕ) (a b : List ℕ) → x ≡ y → comes_before (x ∷ a) (y ∷ b) ≡ comes_before a b
alike_first x y a b is = ap (λ (o : Ordering). is_lt (ordering_then o (slice_cmp nat_cmp a b))) (sym (nat_cmp_is x y Equal is))

less_first : (x y : ℕ) (a b : List ℕ) → x < y → comes_before (x ∷ a) (y ∷ b) ≡ true
less_first x y a b less = ap (λ (o : Ordering). is_lt (ordering_then o (slice_cmp nat_cmp a b))) (sym (nat_cmp_is x y Less less))

more_first : (x y : ℕ) (a b : List ℕ) → y < x → comes_before (x ∷ a) (y ∷ b) ≡ false
more_first x y a b more = ap (λ (o : Ordering). is_lt (ordering_then o (slice_cmp nat_cmp a b))) (sym (nat_cmp_is x y Greater more))

unlike_first : (x y : ℕ) (a b : List ℕ) → x ≢ y → comes_before (x ∷ a) (y ∷ b) ≡ nat_lt x y
unlike_first x y a b other =
    elim (cases_lt x y) [
      | inl less ↦ let is : nat_lt x y ≡ true = grind arith in less_first x y a b less ∙ sym is
      | inr past ↦ let is : nat_lt x y ≡ false = grind arith in more_first x y a b (omega arith) ∙ sym is
    ]

-- the other text ends where they are still alike
pub none_before : (a b : List ℕ) → length b ≤ length a → ((k : ℕ) → k < length b → slice_index a k ≡ slice_index b k) → comes_before a b ≡ false
none_before [] [] within same = refl
none_before (x ∷ a) [] within same = refl
none_before [] (y ∷ b) within same = absurd (omega arith)
none_before (x ∷ a) (y ∷ b) within same =
    alike_first x y a b (same 0 (omega arith)) ∙ none_before a b (omega arith) (λ k lt. same (suc k) (omega arith))

-- the text ends where they are still alike, and the other goes on
pub front_before : (a b : List ℕ) → length a < length b → ((k : ℕ) → k < length a → slice_index a k ≡ slice_index b k) → comes_before a b ≡ true
front_before [] [] within same = absurd (omega arith)
front_before [] (y ∷ b) within same = refl
front_before (x ∷ a) [] within same = absurd (omega arith)
front_before (x ∷ a) (y ∷ b) within same =
    alike_first x y a b (same 0 (omega arith)) ∙ front_before a b (omega arith) (λ k lt. same (suc k) (omega arith))

-- both go on, and the next bytes differ
pub before_by : (a b : List ℕ) (n : ℕ) → n < length a → n < length b → ((k : ℕ) → k < n → slice_index a k ≡ slice_index b k)
    → slice_index a n ≢ slice_index b n → comes_before a b ≡ nat_lt (slice_index a n) (slice_index b n)
before_by [] b n within within_other same other = absurd (omega arith)
before_by (x ∷ a) [] n within within_other same other = absurd (omega arith)
before_by (x ∷ a) (y ∷ b) zero within within_other same other = unlike_first x y a b other
before_by (x ∷ a) (y ∷ b) (suc n) within within_other same other =
    alike_first x y a b (same 0 (omega arith)) ∙ before_by a b n (omega arith) (omega arith) (λ k lt. same (suc k) (omega arith)) other

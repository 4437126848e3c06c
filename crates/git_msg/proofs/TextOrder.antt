-- The order of texts, and texts that begin with others.
use Rattle.std.proofs.Common.{◌≡◌, ℕ, ◌<◌, Bool, true, false, ◌⊎◌, inl, inr, List, [], ◌∷◌, nat_eq, refl, sym, ap, ◌∙◌, subst, arith}
use Rattle.std.specs.Ordering.{nat_cmp, is_le, is_gt, is_lt, ordering_then, ordering_reverse}
use Rattle.std.specs.declared.cmp.Ordering.{Ordering}
use Rattle.std.specs.declared.cmp.Ordering.TheVariants.{Less, Equal, Greater}
use Rattle.std.specs.Cmp.Lexicographic.{slice_cmp}
use Rattle.std.proofs.lemmas.Cmp.{ranked, nat_cmp_total, nat_list_cmp_total, upto, tied_itself}
use Rattle.std.proofs.lemmas.Bool.{both_ways, and_parts, and_from, eqb-true, eq-eqb}
use Rattle.git_msg.specs.Prefixes.{goes_before, begins, text_cmp}

-- the three results of an order, as tests
no_gt : (o : Ordering) → is_le o ≡ true → is_gt o ≡ false
no_gt Less h = refl
no_gt Equal h = refl
no_gt Greater h = absurd (cc)

from_no_gt : (o : Ordering) → is_gt o ≡ false → is_le o ≡ true
from_no_gt Less h = refl
from_no_gt Equal h = refl
from_no_gt Greater h = absurd (cc)

turned_le : (o : Ordering) → is_lt o ≡ false → is_le (ordering_reverse o) ≡ true
turned_le Less h = absurd (cc)
turned_le Equal h = refl
turned_le Greater h = refl

lt_le : (o : Ordering) → is_lt o ≡ true → is_le o ≡ true
lt_le Less h = refl
lt_le Equal h = absurd (cc)
lt_le Greater h = absurd (cc)

turned_no_le : (o : Ordering) → is_lt o ≡ true → is_le (ordering_reverse o) ≡ false
turned_no_le Less h = refl
turned_no_le Equal h = absurd (cc)
turned_no_le Greater h = absurd (cc)

pub le_itself : (a : List ℕ) → goes_before a a ≡ true
le_itself a = ap is_le (tied_itself nat_list_cmp_total a)

pub le_trans : (a b c : List ℕ) → goes_before a b ≡ true → goes_before b c ≡ true → goes_before a c ≡ true
le_trans a b c h g = from_no_gt (text_cmp a c) (upto nat_list_cmp_total a b c (no_gt (text_cmp a b) h) (no_gt (text_cmp b c) g))

-- a text that does not come before another one comes after it or equals it
pub le_from_no_lt : (a b : List ℕ) → is_lt (text_cmp b a) ≡ false → goes_before a b ≡ true
le_from_no_lt a b h = subst (λ (o : Ordering). is_le o ≡ true) (sym (nat_list_cmp_total.antisymm a b)) (turned_le (text_cmp b a) h)

pub le_from_lt : (a b : List ℕ) → is_lt (text_cmp a b) ≡ true → goes_before a b ≡ true
le_from_lt a b h = lt_le (text_cmp a b) h

pub no_le_from_lt : (a b : List ℕ) → is_lt (text_cmp a b) ≡ true → goes_before b a ≡ false
no_le_from_lt a b h = subst (λ (o : Ordering). is_le o ≡ false) (sym (nat_list_cmp_total.antisymm b a)) (turned_no_le (text_cmp a b) h)

-- a text comes before another one if its first byte is less, or if that is equal and the rest comes before
heads : (x y : ℕ) (xs ys : List ℕ) (o : Ordering) → o ≡ nat_cmp x y → is_le (ordering_then o (slice_cmp nat_cmp xs ys)) ≡ true
    → (x < y) ⊎ ((x ≡ y) × (goes_before xs ys ≡ true))
heads x y xs ys Less e h = inl (ranked x y Less e)
heads x y xs ys Equal e h = inr (ranked x y Equal e, h)
heads x y xs ys Greater e h = absurd (cc)

-- a text between another one and a text that begins with that begins with it too
pub between : (p q n : List ℕ) → goes_before p q ≡ true → goes_before q n ≡ true → begins n p ≡ true → begins q p ≡ true
between [] q n h g b = refl
between (x ∷ p) [] n h g b = absurd (cc)
between (x ∷ p) (y ∷ q) [] h g b = absurd (cc)
between (x ∷ p) (y ∷ q) (z ∷ n) h g b =
    let parts = and_parts (nat_eq x z) (begins n p) b in
    let same : x ≡ z = eqb-true x z parts.0 in
    elim (heads x y p q (nat_cmp x y) refl h) [
      | inl low ↦ elim (heads y z q n (nat_cmp y z) refl g) [
        | inl lower ↦ absurd (omega (arith, same, low, lower))
        | inr more ↦ absurd (omega (arith, same, low, more.0))
      ]
      | inr more ↦ elim (heads y z q n (nat_cmp y z) refl g) [
        | inl lower ↦ absurd (omega (arith, same, more.0, lower))
        | inr others ↦ and_from (nat_eq x y) (begins q p) (eq-eqb x y more.0) (between p q n more.1 others.1 parts.1)
      ]
    ]

pub begins_trans : (n q p : List ℕ) → begins n q ≡ true → begins q p ≡ true → begins n p ≡ true
begins_trans n q [] b a = refl
begins_trans n [] (x ∷ p) b a = absurd (cc)
begins_trans [] (y ∷ q) (x ∷ p) b a = absurd (cc)
begins_trans (z ∷ n) (y ∷ q) (x ∷ p) b a =
    let first = and_parts (nat_eq y z) (begins n q) b in
    let second = and_parts (nat_eq x y) (begins q p) a in
    let same : x ≡ z = eqb-true x y second.0 ∙ eqb-true y z first.0 in
    and_from (nat_eq x z) (begins n p) (eq-eqb x z same) (begins_trans n q p first.1 second.1)

-- a prefix comes before the text
pub le_from_begins : (p n : List ℕ) → begins n p ≡ true → goes_before p n ≡ true
le_from_begins [] [] b = refl
le_from_begins [] (z ∷ n) b = refl
le_from_begins (x ∷ p) [] b = absurd (cc)
le_from_begins (x ∷ p) (z ∷ n) b =
    let parts = and_parts (nat_eq x z) (begins n p) b in
    let same : x ≡ z = eqb-true x z parts.0 in
    let tied : nat_cmp x z ≡ Equal = subst (λ (k : ℕ). nat_cmp x k ≡ Equal) same (tied_itself nat_cmp_total x) in
    subst (λ (o : Ordering). is_le (ordering_then o (slice_cmp nat_cmp p n)) ≡ true) (sym tied) (le_from_begins p n parts.1)

-- a text that is not after one that comes before a third comes before the third
pub lt_from_le_lt : (a b c : List ℕ) → goes_before a b ≡ true → is_lt (text_cmp b c) ≡ true → is_lt (text_cmp a c) ≡ true
lt_from_le_lt a b c low less = by_test (is_lt (text_cmp a c)) refl
  where
    by_test : (t : Bool) → is_lt (text_cmp a c) ≡ t → t ≡ true
    by_test true e = refl
    by_test false e = absurd (both_ways (goes_before c b) (no_le_from_lt b c less) (le_trans c a b (le_from_no_lt c a e) low))

-- and a text that comes before another does not come after it
pub no_lt_back : (a b : List ℕ) → is_lt (text_cmp a b) ≡ true → is_lt (text_cmp b a) ≡ false
no_lt_back a b less = by_test (is_lt (text_cmp b a)) refl
  where
    by_test : (t : Bool) → is_lt (text_cmp b a) ≡ t → t ≡ false
    by_test true e = absurd (both_ways (goes_before b a) (no_le_from_lt a b less) (le_from_lt b a e))
    by_test false e = refl

pub lt_from_lt_le : (a b c : List ℕ) → is_lt (text_cmp a b) ≡ true → goes_before b c ≡ true → is_lt (text_cmp a c) ≡ true
lt_from_lt_le a b c less low = by_test (is_lt (text_cmp a c)) refl
  where
    by_test : (t : Bool) → is_lt (text_cmp a c) ≡ t → t ≡ true
    by_test true e = refl
    by_test false e = absurd (both_ways (goes_before b a) (no_le_from_lt a b less) (le_trans b c a low (le_from_no_lt c a e)))

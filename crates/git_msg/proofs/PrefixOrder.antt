-- Sorted lists of texts, and the names that they show.
use Rattle.std.proofs.Common.{◌≡◌, ℕ, zero, suc, ◌-◌, ◌==◌, ◌<◌, ◌≤◌, Bool, true, false, ◌||◌, if◌then◌else◌, inl, inr, List, [], ◌∷◌, All, length, rules}
use Rattle.std.proofs.Common.{map, nat_eq, slice_index_or, refl, sym, ap, subst, arith}
use Rattle.std.specs.List.{list_any, starts_with, AllPairs, dedup, dedup_from}
use Rattle.std.specs.List.Sorted.{IsPermutation, IsSortedBy, IsPartitionedBy, IsPartitionPoint}
use Rattle.std.specs.Ordering.{is_lt}
use Rattle.std.proofs.lemmas.Bool.{cases_lt, both_ways}
use Rattle.std.proofs.lemmas.Cmp.{nat_list_cmp_total}
use Rattle.std.proofs.lemmas.List.{get_or-map, get_or_default, length-map}
use Rattle.std.proofs.lemmas.List.Filters.{All-dedup}
use Rattle.std.proofs.lemmas.List.Folds.{list_any_at, list_any_none}
use Rattle.std.proofs.lemmas.Grind.{common_steps}
use Rattle.std.proofs.lemmas.Option.{get_or_from_slice_get, slice_get-get_or}
use Rattle.std.specs.Prelude.{None, Some, slice_get}
use Rattle.std.proofs.lemmas.List.Kept.{AllPairs-cons}
use Rattle.std.proofs.lemmas.List.Sorted.{IsPermutation-map, length_permutation, list_any-IsPermutation, ranks_by, sorted_far}
use Rattle.git_msg.specs.Prefixes.{Precedes, Prunes, IsOrdered, ShowAlike, SplitsAt, goes_before, begins, is_empty, is_shown, text_cmp}
use Rattle.git_msg.proofs.TextOrder.{between, begins_trans, le_trans, le_from_no_lt, le_from_begins}

-- lists of the same length are both empty or both not
empty_alike : (xs ys : List (List ℕ)) → length ys ≡ length xs → is_empty xs ≡ is_empty ys
empty_alike [] [] e = refl
empty_alike [] (y ∷ ys) e = absurd (omega (arith, e))
empty_alike (x ∷ xs) [] e = absurd (omega (arith, e))
empty_alike (x ∷ xs) (y ∷ ys) e = refl

module _ {X : Type 0} (f : X → List ℕ) where
  -- the same texts in another order show the same names
  pub alike_moved : (xs ys : List X) → IsPermutation xs ys → ShowAlike (map f xs) (map f ys)
  alike_moved xs ys h name = search (rules, IsPermutation-map, empty_alike, length_permutation, list_any-IsPermutation)

  -- a text that begins with another shows only names that the other one shows too
  abbrev pub same : X → X → Bool
  same a b = begins (f a) (f b)

  or_less : (a b c : Bool) → (b ≡ true → a ≡ true) → (a || c) ≡ (a || (b || c))
  or_less true b c h = refl
  or_less false true c h = absurd (cc (h refl))
  or_less false false c h = refl

  abbrev shows : List ℕ → List X → Bool
  shows name xs = list_any (starts_with nat_eq name) (map f xs)

  kept_step : (name : List ℕ) (k x : X) (xs : List X) (b : Bool) → same x k ≡ b
      → shows name (dedup_from same k xs) ≡ (starts_with nat_eq name (f k) || shows name xs)
      → shows name (dedup_from same x xs) ≡ (starts_with nat_eq name (f x) || shows name xs)
      → shows name (if b then dedup_from same k xs else k ∷ dedup_from same x xs)
      ≡ (starts_with nat_eq name (f k) || (starts_with nat_eq name (f x) || shows name xs))
  kept_step name k x xs true e past next = search (rules, or_less, begins_trans)
  kept_step name k x xs false e past next = ap (λ (b : Bool). starts_with nat_eq name (f k) || b) next

  kept_from : (name : List ℕ) (k : X) (xs : List X) → shows name (dedup_from same k xs) ≡ (starts_with nat_eq name (f k) || shows name xs)
  kept_from name k [] = refl
  kept_from name k (x ∷ xs) = kept_step name k x xs (same x k) refl (kept_from name k xs) (kept_from name x xs)

  empty_step : (k x : X) (xs : List X) (b : Bool) → is_empty (map f (dedup_from same k xs)) ≡ false
      → is_empty (map f (if b then dedup_from same k xs else k ∷ dedup_from same x xs)) ≡ false
  empty_step k x xs true past = past
  empty_step k x xs false past = refl

  not_empty : (k : X) (xs : List X) → is_empty (map f (dedup_from same k xs)) ≡ false
  not_empty k [] = refl
  not_empty k (x ∷ xs) = empty_step k x xs (same x k) (not_empty k xs)

  pub alike_pruned : (xs : List X) → ShowAlike (map f xs) (map f (dedup same xs))
  alike_pruned [] name = refl
  alike_pruned (x ∷ xs) name = rw (not_empty x xs) (sym (kept_from name x xs))

  -- each of the sorted texts comes before those after it
  pub sorted_pairs : (xs : List X) → IsSortedBy (λ a b. is_lt (text_cmp (f a) (f b))) xs → AllPairs (λ a b. goes_before (f a) (f b) ≡ true) xs
  sorted_pairs xs h i j d low below =
      le_from_no_lt (f (slice_index_or xs i d)) (f (slice_index_or xs j d)) (sorted_far _ (ranks_by nat_list_cmp_total f) xs h i j d (omega (arith, low)) below)

  abbrev Before : X → X → Type 0
  Before a b = goes_before (f a) (f b) ≡ true

  abbrev Prec : X → X → Type 0
  Prec a b = Precedes (f a) (f b)

  begun_no_more : (p q n : List ℕ) → goes_before p q ≡ true → goes_before q n ≡ true → begins q p ≡ false → begins n p ≡ false
  begun_no_more p q n h g none = by_test (begins n p) refl
    where
      by_test : (b : Bool) → begins n p ≡ b → b ≡ false
      by_test true e = absurd (both_ways (begins q p) none (between p q n h g e))
      by_test false e = refl

  first_before : (k : X) (xs : List X) → AllPairs Before (k ∷ xs) → All (Before k) xs
  first_before k xs h j d below = h 0 (suc j) d (omega arith) (omega (arith, below))

  rest_before : (k : X) (xs : List X) → AllPairs Before (k ∷ xs) → AllPairs Before xs
  rest_before k xs h i j d low below = h (suc i) (suc j) d (omega (arith, low)) (omega (arith, below))

  without_next : (k x : X) (xs : List X) → AllPairs Before (k ∷ x ∷ xs) → AllPairs Before (k ∷ xs)
  without_next k x xs h =
      let after = rest_before x xs (rest_before k (x ∷ xs) h) in
      AllPairs-cons Before k xs (λ j d below. first_before k (x ∷ xs) h (suc j) d (omega (arith, below))) after

  first_precedes : (k x : X) (xs : List X) → AllPairs Before (k ∷ x ∷ xs) → same x k ≡ false → All (Prec k) (x ∷ xs)
  first_precedes k x xs h none zero d below = (first_before k (x ∷ xs) h 0 d below, none)
  first_precedes k x xs h none (suc j) d below =
      let low = first_before k (x ∷ xs) h in
      let next = first_before x xs (rest_before k (x ∷ xs) h) j d (omega (arith, below)) in
      (low (suc j) d below, begun_no_more (f k) (f x) _ (low 0 d (omega arith)) next none)

  pruned_step : (k x : X) (xs : List X) → AllPairs Before (k ∷ x ∷ xs) → (b : Bool) → same x k ≡ b → AllPairs Prec (dedup_from same k xs)
      → AllPairs Prec (dedup_from same x xs)
      → AllPairs Prec (if b then dedup_from same k xs else k ∷ dedup_from same x xs)
  pruned_step k x xs h true e past next = past
  pruned_step k x xs h false e past next =
      AllPairs-cons Prec k (dedup_from same x xs) (All-dedup same (Prec k) (x ∷ xs) (first_precedes k x xs h e)) next

  pruned_from : (k : X) (xs : List X) → AllPairs Before (k ∷ xs) → AllPairs Prec (dedup_from same k xs)
  pruned_from k [] h = AllPairs-cons Prec k [] (λ j d below. absurd (omega (arith, below))) (λ i j d low below. absurd (omega (arith, below)))
  pruned_from k (x ∷ xs) h =
      pruned_step k x xs h (same x k) refl (pruned_from k xs (without_next k x xs h)) (pruned_from x xs (rest_before k (x ∷ xs) h))

  pruned_pairs : (xs : List X) → AllPairs Before xs → AllPairs Prec (dedup same xs)
  pruned_pairs [] h = λ i j d low below. absurd (omega (arith, below))
  pruned_pairs (x ∷ xs) h = pruned_from x xs h

  pairs_of_texts : (xs : List X) (e : X) → AllPairs Prec xs → IsOrdered (map f xs)
  pairs_of_texts xs e h i j d low below =
      let long : length (map f xs) ≡ length xs = length-map xs f in
      let inside : j < length xs = omega (arith, below, long) in
      rw (get_or-map f xs i e d (omega (arith, low, inside)), get_or-map f xs j e d inside) (h i j e low inside)

  -- sorted texts, without those that begin with another one
  pub ordered : (xs : List X) (e : X) → IsSortedBy (λ a b. is_lt (text_cmp (f a) (f b))) xs → IsOrdered (map f (dedup same xs))
  ordered xs e h = pairs_of_texts (dedup same xs) e (pruned_pairs xs (sorted_pairs xs h))

  -- those that do not come after a name are at the front
  pub parted : (xs : List X) (name : List ℕ) → IsOrdered (map f xs) → IsPartitionedBy (λ x. goes_before (f x) name) xs
  parted xs name h i j d low below passes = elim (cases_lt i j) [
    | inl before ↦
        let long : length (map f xs) ≡ length xs = length-map xs f in
        let pair = h i j (f d) before (omega (arith, long, below)) in
        let first = get_or-map f xs i d (f d) (omega (arith, low, below)) in
        let second = get_or-map f xs j d (f d) below in
        le_trans (f (slice_index_or xs i d)) (f (slice_index_or xs j d)) name (rw (← first, ← second) pair.0) passes
    | inr equal ↦
        let same_place : i ≡ j = omega (arith, low, equal) in
        rw same_place passes
  ]

  pub split_of_texts : (xs : List X) (name : List ℕ) (i : ℕ) (e : X) → i ≤ length xs
      → IsPartitionPoint (λ x. goes_before (f x) name ≡ true) (λ x. goes_before (f x) name ≡ false) xs i → SplitsAt (map f xs) name i
  split_of_texts xs name i e bound parts =
      let long : length (map f xs) ≡ length xs = length-map xs f in
      record {
        bound = omega (arith, bound, long);
        before = λ k d low. rw (get_or-map f xs k e d (omega (arith, low, bound))) (parts.0 k e (omega arith) low);
        after = λ k d high below. let inside : k < length xs = omega (arith, below, long) in rw (get_or-map f xs k e d inside) (parts.1 k e high inside);
      }

-- a text after the name does not begin it
pub no_begin : (p name : List ℕ) → goes_before p name ≡ false → begins name p ≡ false
no_begin p name after = by_test (begins name p) refl
  where
    by_test : (b : Bool) → begins name p ≡ b → b ≡ false
    by_test true e = absurd (both_ways (goes_before p name) after (le_from_begins p name e))
    by_test false e = refl

-- no text begins a name that comes before all of them
pub none_shown : (ps : List (List ℕ)) (name : List ℕ) → SplitsAt ps name 0 → is_empty ps ≡ is_shown ps name
none_shown [] name h = refl
none_shown (p ∷ ps) name h =
    sym (list_any_none (starts_with nat_eq name) (p ∷ ps) (λ k d below. no_begin (slice_index_or (p ∷ ps) k d) name (h.after k d (omega arith) below)))

not_empty_ps : (ps : List (List ℕ)) (i : ℕ) → i < length ps → is_empty ps ≡ false
not_empty_ps [] i h = absurd (omega (arith, h))
not_empty_ps (p ∷ ps) i h = refl

-- a text before one that does not begin the name does not begin it either, and neither does one after it
others_no_begin : (p q name : List ℕ) → Precedes p q → goes_before q name ≡ true → begins name p ≡ false
others_no_begin p q name h low = by_test (begins name p) refl
  where
    by_test : (b : Bool) → begins name p ≡ b → b ≡ false
    by_test true e = absurd (both_ways (begins q p) h.1 (between p q name h.0 low e))
    by_test false e = refl

-- only the last text that does not come after the name can begin it
pub last_decides : (ps : List (List ℕ)) (name : List ℕ) (i : ℕ) (d : List ℕ) → IsOrdered ps → SplitsAt ps name (suc i)
    → begins name (slice_index_or ps i d) ≡ is_shown ps name
last_decides ps name i d ordered split = by_test (begins name (slice_index_or ps i d)) refl
  where
    inside : i < length ps
    inside = let bound = split.bound in omega arith

    only : begins name (slice_index_or ps i d) ≡ false → (k : ℕ) (e : List ℕ) → k < length ps → begins name (slice_index_or ps k e) ≡ false
    only none k e below = elim (cases_lt k i) [
      | inl low ↦ others_no_begin (slice_index_or ps k e) (slice_index_or ps i e) name (ordered k i e low inside) (split.before i e (omega arith))
      | inr high ↦ elim (cases_lt i k) [
        | inl above ↦ no_begin (slice_index_or ps k e) name (split.after k e (omega (arith, above)) below)
        | inr equal ↦
            let same_place : k ≡ i = omega (arith, high, equal) in
            rw (same_place, get_or_default ps i e d inside) none
      ]
    ]

    by_test : (b : Bool) → begins name (slice_index_or ps i d) ≡ b → b ≡ is_shown ps name
    by_test true e = rw (not_empty_ps ps i inside) (sym (list_any_at (starts_with nat_eq name) ps i d inside e))
    by_test false e = rw (not_empty_ps ps i inside) (sym (list_any_none (starts_with nat_eq name) ps (only e)))

-- it is the one before that place
pub last_found : (ps : List (List ℕ)) (name p : List ℕ) (at : ℕ) → 0 < at → Some p ≡ slice_get ps (at - 1) → IsOrdered ps → SplitsAt ps name at
    → begins name p ≡ is_shown ps name
last_found ps name p at some found ordered split =
    let next : at ≡ suc (at - 1) = omega (arith, some) in
    rw (← get_or_from_slice_get ps (at - 1) p p (sym found)) (last_decides ps name (at - 1) p ordered (subst (SplitsAt ps name) next split))

pub one_found : (ps : List (List ℕ)) (name : List ℕ) (at : ℕ) → 0 < at → None ≡ slice_get ps (at - 1) → SplitsAt ps name at → ⊥
one_found ps name at some found split =
    let there = slice_get-get_or ps (at - 1) [] (omega (arith, some, split.bound)) in
    cc

-- the texts are none if their number is 0
pub none_counted : (ps : List (List ℕ)) → (length ps == 0) ≡ is_empty ps
none_counted [] = refl
none_counted (p ∷ ps) = grind (arith, common_steps)

-- pruning the ends is pruning their texts
dedup_step : {X : Type 0} (f : X → List ℕ) (k x : X) (xs : List X) (b : Bool)
    → map f (dedup_from (same f) k xs) ≡ dedup_from begins (f k) (map f xs) → map f (dedup_from (same f) x xs) ≡ dedup_from begins (f x) (map f xs)
    → map f (if b then dedup_from (same f) k xs else k ∷ dedup_from (same f) x xs)
    ≡ (if b then dedup_from begins (f k) (map f xs) else f k ∷ dedup_from begins (f x) (map f xs))
dedup_step f k x xs true past next = past
dedup_step f k x xs false past next = ap (λ (ps : List (List ℕ)). f k ∷ ps) next

dedup_texts : {X : Type 0} (f : X → List ℕ) (k : X) (xs : List X) → map f (dedup_from (same f) k xs) ≡ dedup_from begins (f k) (map f xs)
dedup_texts f k [] = refl
dedup_texts f k (x ∷ xs) = dedup_step f k x xs (same f x k) (dedup_texts f k xs) (dedup_texts f x xs)

pub pruned_texts : {X : Type 0} (f : X → List ℕ) (xs : List X) → map f (dedup (same f) xs) ≡ dedup begins (map f xs)
pruned_texts f [] = refl
pruned_texts f (x ∷ xs) = dedup_texts f x xs

-- the ends are moved and some are dropped, and so are the texts
pub prunes_texts : {X : Type 0} (f : X → List ℕ) (xs ys : List X) → IsPermutation xs ys → Prunes (map f xs) (map f (dedup (same f) ys))
prunes_texts f xs ys h = record { moved = map f ys; same = IsPermutation-map f xs ys h; kept = pruned_texts f ys }

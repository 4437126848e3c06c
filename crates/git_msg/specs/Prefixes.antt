-- Prefixes in an order that allows binary search.
use Rattle.std.specs.Prelude.{◌≡◌, ◌≤◌, ◌<◌, ℕ, Bool, ◌||◌, List, [], ◌∷◌, true, false, nat_eq, length, slice_index_or}
use Rattle.std.specs.List.{list_any, starts_with, AllPairs, dedup}
use Rattle.std.specs.List.Sorted.{IsPermutation}
use Rattle.std.specs.Ordering.{nat_cmp, is_le}
use Rattle.std.specs.Cmp.Lexicographic.{slice_cmp}
use Rattle.std.specs.declared.cmp.Ordering.{Ordering}
use Rattle.git_msg.specs.Arguments.{Arg}
use Rattle.git_msg.specs.Asked.{ref_prefixes_in, peel_in, symrefs_in, unborn_in}
use Rattle.git_msg.specs.Kept.{Kept}

-- the order of texts by their bytes
abbrev pub text_cmp : List ℕ → List ℕ → Ordering
text_cmp = slice_cmp nat_cmp

-- the first does not come after the second
abbrev pub goes_before : List ℕ → List ℕ → Bool
goes_before a b = is_le (text_cmp a b)

-- the text begins with the prefix
abbrev pub begins : List ℕ → List ℕ → Bool
begins text prefix = starts_with nat_eq text prefix

abbrev pub is_empty : List (List ℕ) → Bool
is_empty [] = true
is_empty (p ∷ ps) = false

-- the name begins with one of the prefixes, or there are none
abbrev pub is_shown : List (List ℕ) → List ℕ → Bool
is_shown prefixes name = is_empty prefixes || list_any (starts_with nat_eq name) prefixes

-- the same names are shown
abbrev pub ShowAlike : List (List ℕ) → List (List ℕ) → Type 0
ShowAlike ps qs = (name : List ℕ) → is_shown ps name ≡ is_shown qs name

-- the second does not come before the first, and does not begin with it
abbrev pub Precedes : List ℕ → List ℕ → Type 0
Precedes a b = (goes_before a b ≡ true) × (begins b a ≡ false)

-- each text precedes those after it
abbrev pub IsOrdered : List (List ℕ) → Type 0
IsOrdered ps = AllPairs Precedes ps

-- the texts before this index do not come after the name, and the others do
pub record SplitsAt (ps : List (List ℕ)) (name : List ℕ) (i : ℕ) : Type 0 where
  pub bound : i ≤ length ps
  pub before : (k : ℕ) (d : List ℕ) → k < i → goes_before (slice_index_or ps k d) name ≡ true
  pub after : (k : ℕ) (d : List ℕ) → i ≤ k → k < length ps → goes_before (slice_index_or ps k d) name ≡ false

-- the same texts in another order, without those that begin with the last one kept
pub record Prunes (ps qs : List (List ℕ)) : Type 0 where
  pub moved : List (List ℕ)
  pub same : IsPermutation ps moved
  pub kept : qs ≡ dedup begins moved

-- the texts in their order, without those that begin with another: they show the same names
pub record PutsInOrder (old new : List (List ℕ)) : Type 0 where
  pub ordered : IsOrdered new
  pub alike : ShowAlike old new
  pub prunes : Prunes old new

-- the same request, with prefixes that show the same names
pub record OrdersPrefixes (old new : Kept (List Arg)) : Type 0 where
  pub symrefs : symrefs_in new.asked ≡ symrefs_in old.asked
  pub peel : peel_in new.asked ≡ peel_in old.asked
  pub unborn : unborn_in new.asked ≡ unborn_in old.asked
  pub alike : ShowAlike (ref_prefixes_in old.asked) (ref_prefixes_in new.asked)
  pub kept : new.kept ≡ old.kept
  pub limit : new.limit ≡ old.limit
  pub format : new.format ≡ old.format
  pub stored : new.stored ≤ old.stored

-- The name of a reference, held against the name of the reference before it.
use Rattle.std.specs.Prelude.{◌≡◌, ◌≢◌, ℕ, ◌<◌, ◌≤◌, true, false, List, codes, length, slice_index, take, Option, Some, None, Bool}
use Rattle.git_names.specs.NextByte.{MayFollow}
use Rattle.git_names.specs.RefName.{BeginsWith, IsRefName}
use Rattle.git_server.specs.Repository.{comes_before}
use Rattle.git_host.specs.declared.next_name.NextName.{NextName}
use Rattle.git_host.specs.declared.next_name.NextName.TheVariants.{Bad, Unsorted, Next}

-- a name comes after that of the reference before it, if there is one
abbrev pub comes_after : Option (List ℕ) → List ℕ → Bool
comes_after None name = true
comes_after (Some last) name = comes_before last name

-- both texts begin with this many bytes, and where both go on they differ
pub record IsCommon (a b : List ℕ) (n : ℕ) : Type 0 where
  pub within : n ≤ length a
  pub within_other : n ≤ length b
  pub same : (k : ℕ) → k < n → slice_index a k ≡ slice_index b k
  pub differs : n < length a → n < length b → slice_index a n ≢ slice_index b n

-- each byte of the text from this place on may follow those before it
abbrev pub FollowsFrom : List ℕ → ℕ → Type 0
FollowsFrom text from = (k : ℕ) → from ≤ k → k < length text → MayFollow (take k text) (slice_index text k)

-- up to this place the text keeps the rules of reference names
pub record HoldsUpTo (text : List ℕ) (n : ℕ) : Type 0 where
  pub within : n ≤ length text
  pub follows : (k : ℕ) → k < n → MayFollow (take k text) (slice_index text k)
  pub begins : 5 ≤ n → BeginsWith text (codes "refs/")

-- what is found of a name, after the name before it, if there is one
abbrev pub Judges : Option (List ℕ) → List ℕ → NextName → Type 0
Judges last name Bad = ¬ IsRefName name
Judges last name Unsorted = IsRefName name × (comes_after last name ≡ false)
Judges last name Next = IsRefName name × (comes_after last name ≡ true)

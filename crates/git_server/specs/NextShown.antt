-- The shown references from an index on.
use Rattle.std.specs.Prelude.{◌≡◌, ℕ, ◌+◌, ◌<◌, ◌≤◌, Option, List, [], ◌∷◌, length, drop, slice_index_or, MatchOption}
use Rattle.git_server.specs.Repository.{Entry}
use Rattle.git_server.specs.Answers.{shown_refs}

-- the reference at `at` is the first of those shown from an index on
pub record IsNextShown (prefixes : List (List ℕ)) (refs : List Entry) (from at : ℕ) : Type 0 where
  pub within : at < length refs
  pub behind : from ≤ at
  pub first : (d : Entry) → shown_refs prefixes (drop from refs) ≡ slice_index_or refs at d ∷ shown_refs prefixes (drop (at + 1) refs)

-- the index of the first one shown, or that none is shown
abbrev pub NextShown : List (List ℕ) → List Entry → ℕ → Option ℕ → Type 0
NextShown prefixes refs from found =
    MatchOption found (shown_refs prefixes (drop from refs) ≡ []) (IsNextShown prefixes refs from)

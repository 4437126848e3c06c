-- The contents of the lines of a repository's text that have ended, and the bytes of the line that has begun after them.
use Rattle.std.specs.Prelude.{◌≡◌, ◌⊎◌, ℕ, ◌+◌, ◌<◌, List, [], ◌∷◌, ◌++◌, length}
use Rattle.git_names.specs.declared.object_format.Format.{Format}
use Rattle.git_repository.specs.RepositoryLines.{LineContent, longest_line}
use Rattle.git_repository.specs.RepositoryText.{Begins, HasBadLine, HasNoFormat, WantsMemory}
use Rattle.git_repository.specs.Machine.DraftLists.{drafted}
use Rattle.git_repository.specs.declared.repository_progress.Progress.{Progress}
use Rattle.git_repository.specs.declared.repository_progress.Progress.TheVariants.{Start, Lines, Failed}
use Rattle.git_repository.specs.declared.text_faults.TextFault.{TextFault}
use Rattle.git_repository.specs.declared.text_faults.TextFault.TheVariants.{Bad, OutOfMemory}
use Rattle.git_repository.specs.LinesAnnounced.{AreAnnounced}

-- the error is in these lines
abbrev pub IsLinesFault : (ℕ → Type 0) → List (List ℕ) → TextFault → Type 0
IsLinesFault refuses lines (Bad number) = HasNoFormat lines number ⊎ HasBadLine lines number
IsLinesFault refuses lines OutOfMemory = WantsMemory refuses lines

-- these lines were read
abbrev pub HasRead : (ℕ → Type 0) → Progress → List (List ℕ) → Type 0
HasRead refuses Start lines = lines ≡ []
HasRead refuses (Lines draft) lines = AreAnnounced lines (drafted draft)
HasRead refuses (Failed fault) lines = IsLinesFault refuses lines fault

-- there are no lines, or they begin a text
abbrev pub MayGoOn : List (List ℕ) → Type 0
MayGoOn lines = (lines ≡ []) ⊎ ((format : Format) × (content : List LineContent) × Begins format lines content)

-- the line that has begun after these is already longer than a line may be, which is the error
pub record IsTooLong (ended : List (List ℕ)) (begun : List ℕ) (fault : TextFault) : Type 0 where
  pub may_go_on : MayGoOn ended
  pub long : longest_line < length begun
  pub at_number : fault ≡ Bad (length ended + 1)

-- these lines were read, and the bytes of this one that have come
abbrev pub HasReadTo : (ℕ → Type 0) → Progress → List (List ℕ) → List ℕ → Type 0
HasReadTo refuses Start ended begun = ended ≡ []
HasReadTo refuses (Lines draft) ended begun = AreAnnounced ended (drafted draft)
HasReadTo refuses (Failed fault) ended begun = IsLinesFault refuses ended fault ⊎ IsTooLong ended begun fault

-- a line was refused
abbrev pub HasFailed : Progress → Type 0
HasFailed Start = ⊥
HasFailed (Lines draft) = ⊥
HasFailed (Failed fault) = Unit {0}

-- the buffered bytes are the line that has begun; after an error they do not matter
abbrev pub IsBegun : Progress → List ℕ → List ℕ → Type 0
IsBegun Start held begun = held ≡ begun
IsBegun (Lines draft) held begun = held ≡ begun
IsBegun (Failed fault) held begun = Unit {0}

-- all of these lines but the last were read, and the last has begun
pub record Stands (refuses : ℕ → Type 0) (progress : Progress) (held : List ℕ) (lines : List (List ℕ)) : Type 0 where
  pub ended : List (List ℕ)
  pub begun : List ℕ
  pub whole : lines ≡ ended ++ begun ∷ []
  pub read : HasReadTo refuses progress ended begun
  pub is_begun : IsBegun progress held begun

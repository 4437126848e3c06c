-- The contents of the lines of a repository's text so far, and what one more line adds.
use Rattle.std.specs.Prelude.{◌≡◌, ℕ, ◌+◌, ◌-◌, ◌<◌, Bool, true, false, List, [], ◌∷◌, ◌++◌, Option, Some, None, Result, codes, length, map, slice_index_or}
use Rattle.std.specs.Prelude.{All, MatchResult}
use Rattle.std.specs.Option.{IfSome, is_some}
use Rattle.git_names.specs.RefName.{IsRefName}
use Rattle.git_names.specs.declared.object_format.Format.{Format}
use Rattle.git_names.specs.ObjectName.{ObjectName}
use Rattle.git_msg.specs.Memory.{HasRefused}
use Rattle.git_server.specs.Repository.{IsNamed, IsOfFormat, comes_before}
use Rattle.git_server.specs.Objects.{object_of, precedes}
use Rattle.git_server.specs.Lists.{Lists, AreOfFormat}
use Rattle.git_repository.specs.Packs.{PackBytes, no_packs}
use Rattle.git_repository.specs.RepositoryLines.{LineContent, reference, unborn, object, ready, boundary}
use Rattle.git_repository.specs.RepositoryText.{MayStand, TakesMemory, list_bytes, count_in, lists_of_contents, name_in, names_in, object_in}
use Rattle.git_repository.specs.declared.text_faults.LineFault.{LineFault}
use Rattle.git_repository.specs.declared.text_faults.LineFault.TheVariants.{Refused, OutOfMemory}

abbrev pub empty_lists : Format → Lists
empty_lists format = lists_of_contents format [] no_packs

-- with these packs
abbrev pub with_packs : Lists → PackBytes → Lists
with_packs lists packs = record lists { pack = packs.pack; filtered = packs.filtered }

-- the name of an unborn `HEAD`, if there is one
abbrev pub head_names : Bool → List (List ℕ)
head_names false = []
head_names true = codes "HEAD" ∷ []

-- the names in lists: that of an unborn `HEAD`, and those of the references
abbrev pub names_of : Lists → List (List ℕ)
names_of lists = head_names (is_some lists.unborn_head) ++ map (λ entry. entry.name) lists.refs

-- the name comes after these
abbrev pub ComesLast : List (List ℕ) → List ℕ → Type 0
ComesLast names name = (d : List ℕ) → 0 < length names → comes_before (slice_index_or names (length names - 1) d) name ≡ true

abbrev pub ComesLastObject : List (ObjectName × ℕ) → ObjectName → Type 0
ComesLastObject objects id = (d : ObjectName × ℕ) → 0 < length objects → precedes (slice_index_or objects (length objects - 1) d).0 id ≡ true

-- the number of lines that a ready count takes
abbrev pub ready_lines : Option ℕ → ℕ
ready_lines None = 0
ready_lines (Some count) = 1

-- the number of lines that an unborn `HEAD` takes
abbrev pub unborn_lines : Option (List ℕ) → ℕ
unborn_lines None = 0
unborn_lines (Some target) = 1

-- the number of lines that contain the lists, with the first line, which names the format
abbrev pub lines_behind : Lists → ℕ
lines_behind lists = length lists.refs + length lists.objects + length lists.boundaries + ready_lines lists.ready_after + unborn_lines lists.unborn_head + 1

-- with the contents of one more line
abbrev pub with_content : Lists → LineContent → Lists
with_content lists (reference entry) = record lists { refs = lists.refs ++ entry ∷ [] }
with_content lists (unborn target) = record lists { unborn_head = Some target }
with_content lists (object id size) = record lists { objects = lists.objects ++ (id, size) ∷ [] }
with_content lists (ready count) = record lists { ready_after = Some count }
with_content lists (boundary line) = record lists { boundaries = lists.boundaries ++ line ∷ [] }

-- a line is allowed after those that contain the lists: its name and its object come after theirs, and its count is the first
pub record MayFollow (lists : Lists) (next : LineContent) : Type 0 where
  pub name_last : IfSome (name_in next) (ComesLast (names_of lists))
  pub object_last : IfSome (object_in next) (λ sized. ComesLastObject lists.objects sized.0)
  pub first_count : IfSome (count_in next) (λ _. lists.ready_after ≡ None)

-- why a line is not stored: it is not allowed there, or it is allowed and memory refused a list for it
abbrev pub IsLineFault : (ℕ → Type 0) → Lists → LineContent → LineFault → Type 0
IsLineFault refuses lists next Refused = ¬ MayFollow lists next
IsLineFault refuses lists next OutOfMemory = MayFollow lists next × TakesMemory next × HasRefused refuses (list_bytes (lines_behind lists) next)

-- a line that is allowed is stored, or there is an error
abbrev pub Keeps : (ℕ → Type 0) → Lists → LineContent → Lists → Result (Unit {0}) LineFault → Type 0
Keeps refuses old next new result = MatchResult result (λ _. (new ≡ with_content old next) × MayFollow old next) (IsLineFault refuses old next)

-- the contents of a line are of the format, and its names are names
abbrev pub IsFit : Format → LineContent → Type 0
IsFit format (reference entry) = IsOfFormat format entry × IsNamed entry.name entry.target
IsFit format (unborn target) = IsRefName target
IsFit format (object id size) = id.format ≡ format
IsFit format (ready count) = Unit {0}
IsFit format (boundary line) = (object_of line).format ≡ format

-- these lists are the contents of the lines
pub record Holds (content : List LineContent) (lists : Lists) : Type 0 where
  pub lists_are : lists ≡ lists_of_contents lists.format content no_packs
  pub names_are : names_in content ≡ names_of lists
  pub may_stand : MayStand content
  pub named : All (λ ref. IsNamed ref.name ref.target) lists.refs
  pub of_format : AreOfFormat lists

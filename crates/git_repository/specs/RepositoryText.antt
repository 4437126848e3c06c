-- The contents of the text of a repository, and the line that is refused.
use Rattle.std.specs.Prelude.{◌≡◌, ◌≢◌, ◌⊎◌, ℕ, ◌+◌, ◌*◌, ◌≤◌, true, List, [], ◌∷◌, ◌++◌, Option, Some, None, codes, length}
use Rattle.std.specs.List.{AllAdjacentBelow, filter_map}
use Rattle.git_names.specs.declared.object_format.Format.{Format}
use Rattle.git_names.specs.ObjectName.{ObjectName}
use Rattle.git_msg.specs.declared.Boundary.{Boundary}
use Rattle.git_msg.specs.ItemsInOrder.{AreItems, IsBadAt, LacksMemory, StopsAt}
use Rattle.git_server.specs.NameBytes.{name_bytes}
use Rattle.git_server.specs.Repository.{Entry, comes_before}
use Rattle.git_server.specs.Objects.{AreRising}
use Rattle.git_server.specs.Lists.{Lists}
use Rattle.git_repository.specs.Packs.{PackBytes}
use Rattle.git_repository.specs.RepositoryLines.{LineContent, reference, unborn, object, ready, boundary, IsLineOf, format_line, lines_of}

-- the reference that a line contains, and those of all lines, in order
abbrev pub ref_in : LineContent → Option Entry
ref_in (reference entry) = Some entry
ref_in content = None

abbrev pub refs_in : List LineContent → List Entry
refs_in = filter_map ref_in

-- the names that unborn `HEAD`s point to
abbrev pub head_in : LineContent → Option (List ℕ)
head_in (unborn target) = Some target
head_in content = None

abbrev pub unborn_in : List LineContent → List (List ℕ)
unborn_in = filter_map head_in

-- the names of all these, in order
abbrev pub name_in : LineContent → Option (List ℕ)
name_in (reference entry) = Some entry.name
name_in (unborn target) = Some (codes "HEAD")
name_in content = None

abbrev pub names_in : List LineContent → List (List ℕ)
names_in = filter_map name_in

-- the names are in their order, and none comes twice
abbrev pub NamesRise : List (List ℕ) → Type 0
NamesRise names = AllAdjacentBelow (λ a b. comes_before a b ≡ true) names (length names)

-- the objects with their sizes
abbrev pub object_in : LineContent → Option (ObjectName × ℕ)
object_in (object id size) = Some (id, size)
object_in content = None

abbrev pub objects_in : List LineContent → List (ObjectName × ℕ)
objects_in = filter_map object_in

-- the counts of ready lines
abbrev pub count_in : LineContent → Option ℕ
count_in (ready count) = Some count
count_in content = None

abbrev pub counts_in : List LineContent → List ℕ
counts_in = filter_map count_in

-- the lines of the boundary
abbrev pub boundary_in : LineContent → Option Boundary
boundary_in (boundary line) = Some line
boundary_in content = None

abbrev pub boundaries_in : List LineContent → List Boundary
boundaries_in = filter_map boundary_in

abbrev pub first_of : {X : Type 0} → List X → Option X
first_of [] = None
first_of (x ∷ xs) = Some x

-- lines with these contents may be in one text: references, with an unborn `HEAD` among them, and objects rise strictly, and there is at
-- most one ready line
pub record MayStand (content : List LineContent) : Type 0 where
  pub rising_names : NamesRise (names_in content)
  pub rising_objects : AreRising (objects_in content)
  pub one_count : length (counts_in content) ≤ 1

-- the repository that they contain, with these packs
abbrev pub lists_of_contents : Format → List LineContent → PackBytes → Lists
lists_of_contents format content packs = record {
  format = format;
  refs = refs_in content;
  objects = objects_in content;
  ready_after = first_of (counts_in content);
  boundaries = boundaries_in content;
  pack = packs.pack;
  unborn_head = first_of (unborn_in content);
  filtered = packs.filtered;
}

-- a line of a text of this format has these contents, which may come after those of the lines before it
abbrev pub MayCome : Format → List LineContent → List ℕ → LineContent → Type 0
MayCome format before line next = IsLineOf format line next × MayStand (before ++ next ∷ [])

-- the first line names the format, and this is so of the others
pub record AfterFormat (Are : Format → List (List ℕ) → Type 0) (format : Format) (lines : List (List ℕ)) : Type 0 where
  pub others : List (List ℕ)
  pub spelled : lines ≡ format_line format ∷ others
  pub others_are : Are format others

-- lines that begin a text: a format, and the contents of the others
abbrev pub Begins : Format → List (List ℕ) → List LineContent → Type 0
Begins format lines content = AfterFormat (λ f others. AreItems (MayCome f) [] others content) format lines

-- the text is this repository, except for its packs
pub record IsRepositoryText (text : List ℕ) (packs : PackBytes) (lists : Lists) : Type 0 where
  pub format : Format
  pub content : List LineContent
  pub begins : Begins format (lines_of text) content
  pub lists_are : lists ≡ lists_of_contents format content packs

-- the first line names no format
pub record HasNoFormat (lines : List (List ℕ)) (number : ℕ) : Type 0 where
  pub at_first : number ≡ 1
  pub first : List ℕ
  pub others : List (List ℕ)
  pub whole : lines ≡ first ∷ others
  pub no_format : (format : Format) → first ≢ format_line format

-- the lines before one of them begin a text, and the reading stops at that one, for this reason
abbrev pub StopsIn : (Format → List LineContent → List ℕ → Type 0) → List (List ℕ) → Type 0
StopsIn Why lines = (format : Format) × AfterFormat (λ f. StopsAt (MayCome f) (Why f)) format lines

-- the lines before the one with this number begin a text, and together with it they do not; the number of the first after the format is 2
abbrev pub HasBadLine : List (List ℕ) → ℕ → Type 0
HasBadLine lines number = StopsIn (λ format. IsBadAt (MayCome format) 2 number) lines

-- the first bad line is the one with this number, counted from 1
abbrev pub IsFirstBad : List ℕ → ℕ → Type 0
IsFirstBad text number = HasNoFormat (lines_of text) number ⊎ HasBadLine (lines_of text) number

-- the contents of a line are stored in memory
abbrev pub TakesMemory : LineContent → Type 0
TakesMemory (reference entry) = Unit {0}
TakesMemory (unborn target) = Unit {0}
TakesMemory (object id size) = Unit {0}
TakesMemory (ready count) = ⊥
TakesMemory (boundary line) = Unit {0}

-- the maximum number of bytes of a list that stores the contents of a line after so many lines. Of these the first names the format. The list of the
-- references, of the objects or of the boundaries has at most one item for each of the lines after the first; each name has a list of its own
abbrev pub list_bytes : ℕ → LineContent → ℕ
list_bytes before (reference entry) = 152 * before + (length entry.name + name_bytes entry.target)
list_bytes before (unborn target) = length target
list_bytes before (object id size) = 48 * before
list_bytes before (ready count) = 0
list_bytes before (boundary line) = 34 * before

-- memory ran out at a line: together with it the lines before it begin a text, and its contents take memory, which refused a list that stores them
abbrev pub WantsMemory : (ℕ → Type 0) → List (List ℕ) → Type 0
WantsMemory refuses lines = StopsIn (λ format. LacksMemory (MayCome format) TakesMemory (λ before. list_bytes (length before + 1)) refuses) lines

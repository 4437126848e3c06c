-- The lines of a repository's text, and the contents of each.
use Rattle.std.specs.Prelude.{◌≡◌, ℕ, ◌<◌, ◌≤◌, ◌^◌, Option, Some, None, List, ◌∷◌, ◌++◌, codes, length}
use Rattle.std.specs.Option.{option_copied}
use Rattle.git_names.specs.declared.object_format.Format.{Format}
use Rattle.git_names.specs.ObjectFormat.{name_of}
use Rattle.git_names.specs.ObjectName.{ObjectName, IsObjectName}
use Rattle.git_pkt.specs.Packets.{text_of}
use Rattle.git_msg.specs.declared.Boundary.{Boundary}
use Rattle.git_msg.specs.declared.Boundary.TheVariants.{Shallow, Unshallow}
use Rattle.git_msg.specs.References.{Ref, IsReferenceLine, reference_of}
use Rattle.git_msg.specs.Texts.{Follows, parts_of}
use Rattle.git_msg.specs.Numbers.{IsNumber}
use Rattle.git_server.specs.Repository.{Entry}
use Rattle.git_repository.specs.declared.repository_lines.LineEntry.{LineEntry}
use Rattle.git_repository.specs.declared.repository_lines.Item.{Item}
use Rattle.git_repository.specs.declared.repository_lines.Item.TheVariants.{Reference, Unborn, Object, ReadyAfter, BoundaryLine}

-- the contents of a line about a repository: a reference, the name that an unborn `HEAD` points to, an object with its size, the number of
-- common objects after which it is ready, a line of its shallow boundary
pub data LineContent : Type 0 where
  reference : Entry → LineContent
  unborn : List ℕ → LineContent
  object : ObjectName → ℕ → LineContent
  ready : ℕ → LineContent
  boundary : Boundary → LineContent

-- the entry that a borrowed one shows
abbrev pub shown_entry : LineEntry → Entry
shown_entry e = record { name = e.name.now; id = e.id; target = option_copied e.target; peeled = e.peeled }

-- the contents that a borrowed item shows
abbrev pub shown : Item → LineContent
shown (Reference entry) = reference (shown_entry entry)
shown (Unborn target) = unborn target.now
shown (Object id size) = object id size
shown (ReadyAfter count) = ready count
shown (BoundaryLine line) = boundary line

-- the lines of a text, between LFs; the last may lack its LF
abbrev pub lines_of : List ℕ → List (List ℕ)
lines_of text = parts_of 10 (text_of text)

-- the maximum length of a line in bytes, without its LF
abbrev pub longest_line : ℕ
longest_line = 65536

abbrev pub format_line : Format → List ℕ
format_line format = codes "format " ++ name_of format

-- an object name, a space and a size
pub record IsSizedObject (format : Format) (id : ObjectName) (size : ℕ) (text : List ℕ) : Type 0 where
  pub name : List ℕ
  pub number : List ℕ
  pub spelled : text ≡ name ++ 32 ∷ number
  pub name_is : IsObjectName format name id
  pub number_is : IsNumber number size
  pub in_range : size < 2 ^ 64

-- a number of objects, at least 1
pub record IsCount (count : ℕ) (text : List ℕ) : Type 0 where
  pub number_is : IsNumber text count
  pub from_one : 0 < count
  pub at_most : count ≤ 2147483647

-- the reference whose line contains an entry: it has an object
abbrev pub ref_of : Entry → Ref
ref_of entry = reference_of (Some entry.id) entry.name entry.target entry.peeled

-- the reference whose line contains an unborn `HEAD`
abbrev pub unborn_ref : List ℕ → Ref
unborn_ref target = reference_of None (codes "HEAD") (Some target) None

-- these are the name, the target and the peeled object of an unborn `HEAD` that points to this
pub record IsUnbornHeadOf (name : List ℕ) (target : Option (List ℕ)) (peeled : Option ObjectName) (head : List ℕ) : Type 0 where
  pub is_head : name ≡ codes "HEAD"
  pub points : target ≡ Some head
  pub no_peeled : peeled ≡ None

-- the contents of a reference line
abbrev pub ReadsReference : Format → List ℕ → LineContent → Type 0
ReadsReference format text (reference entry) = IsReferenceLine format text (ref_of entry)
ReadsReference format text (unborn target) = IsReferenceLine format text (unborn_ref target)
ReadsReference format text _ = ⊥

-- the contents of a line after the first
abbrev pub HasContent : Format → List ℕ → LineContent → Type 0
HasContent format line (reference entry) = Follows (codes "ref ") (λ text. IsReferenceLine format text (ref_of entry)) line
HasContent format line (unborn target) = Follows (codes "ref ") (λ text. IsReferenceLine format text (unborn_ref target)) line
HasContent format line (object id size) = Follows (codes "object ") (IsSizedObject format id size) line
HasContent format line (ready count) = Follows (codes "ready ") (IsCount count) line
HasContent format line (boundary (Shallow id)) = Follows (codes "shallow ") (λ text. IsObjectName format text id) line
HasContent format line (boundary (Unshallow id)) = Follows (codes "unshallow ") (λ text. IsObjectName format text id) line

-- the line is no longer than a line may be, and has these contents
abbrev pub IsLineOf : Format → List ℕ → LineContent → Type 0
IsLineOf format line content = (length line ≤ longest_line) × HasContent format line content

-- the line contains nothing of a repository of this format
abbrev pub HasNoContent : Format → List ℕ → Type 0
HasNoContent format line = (content : LineContent) → ¬ HasContent format line content

-- The order of object names.
use Rattle.std.specs.Prelude.{◌≡◌, ℕ, Bool, true, if◌then◌else◌, List, [], ◌∷◌, Option, Some, None, length}
use Rattle.std.specs.List.{AllAdjacentBelow, list_any}
use Rattle.std.specs.Ordering.{nat_cmp, ordering_then, is_lt, is_eq}
use Rattle.std.specs.Cmp.Lexicographic.{slice_cmp}
use Rattle.std.specs.declared.cmp.Ordering.{Ordering}
use Rattle.std.specs.declared.cmp.Ordering.TheVariants.{Less, Equal, Greater}
use Rattle.git_names.specs.declared.object_format.Format.{Format}
use Rattle.git_names.specs.declared.object_format.Format.TheVariants.{Sha1, Sha256}
use Rattle.git_names.specs.ObjectName.{ObjectName}
use Rattle.git_msg.specs.declared.Boundary.{Boundary}
use Rattle.git_msg.specs.declared.Boundary.TheVariants.{Shallow, Unshallow}

abbrev pub format_cmp : Format → Format → Ordering
format_cmp Sha1 Sha1 = Equal
format_cmp Sha1 Sha256 = Less
format_cmp Sha256 Sha1 = Greater
format_cmp Sha256 Sha256 = Equal

-- SHA-1 comes before SHA-256, and names of one format are in the order of their bytes
abbrev pub object_cmp : ObjectName → ObjectName → Ordering
object_cmp a b = ordering_then (format_cmp a.format b.format) (slice_cmp nat_cmp a.bytes b.bytes)

-- one object name comes before the other
abbrev pub precedes : ObjectName → ObjectName → Bool
precedes a b = is_lt (object_cmp a b)

-- objects with their sizes: their names rise strictly
abbrev pub AreRising : List (ObjectName × ℕ) → Type 0
AreRising objects = AllAdjacentBelow (λ a b. precedes a.0 b.0 ≡ true) objects (length objects)

-- whether one of the objects has the name: it comes neither before it nor after it
abbrev pub has_object : List (ObjectName × ℕ) → ObjectName → Bool
has_object objects id = list_any (λ object. is_eq (object_cmp object.0 id)) objects

-- the size of the first of the objects that has the name
abbrev pub size_among : List (ObjectName × ℕ) → ObjectName → Option ℕ
size_among [] id = None
size_among (object ∷ objects) id = if is_eq (object_cmp object.0 id) then Some object.1 else size_among objects id

-- the object of a line of the boundary
abbrev pub object_of : Boundary → ObjectName
object_of (Shallow id) = id
object_of (Unshallow id) = id

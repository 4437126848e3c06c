-- A repository as the protocol sees it.
use Rattle.std.specs.Prelude.{◌≡◌, ◌≢◌, ℕ, Bool, true, length, All, Any, MatchOption, List, [], ◌∷◌, Option, Some, None, Vec, codes, if◌then◌else◌}
use Rattle.std.specs.List.{AllAdjacentBelow}
use Rattle.std.specs.Str.{bytes_eq}
use Rattle.std.specs.Option.{ForSome}
use Rattle.std.specs.Ordering.{nat_cmp, is_lt}
use Rattle.std.specs.Cmp.Lexicographic.{slice_cmp}
use Rattle.git_names.specs.declared.object_format.Format.{Format}
use Rattle.git_names.specs.ObjectName.{ObjectName}
use Rattle.git_names.specs.RefName.{IsRefName}
use Rattle.git_msg.specs.declared.Boundary.{Boundary}
use Rattle.git_msg.specs.declared.Boundary.TheVariants.{Shallow, Unshallow}
use Rattle.git_msg.specs.Asked.{shallows_in}
use Rattle.git_server.specs.Objects.{object_of}
use Rattle.git_msg.specs.Arguments.{Arg}

-- a reference: its name, its object, the target of a symbolic reference, and the object that a tag object peels to
pub record Entry : Type 0 where
  pub name : List ℕ
  pub id : ObjectName
  pub target : Option (List ℕ)
  pub peeled : Option ObjectName

-- the bytes, if there are some
abbrev pub bytes_of : {A : Type 0} → Option (Vec ℕ A) → Option (List ℕ)
bytes_of None = None
bytes_of (Some bytes) = Some bytes.items

-- the name and the target are reference names
pub record IsNamed (name : List ℕ) (target : Option (List ℕ)) : Type 0 where
  pub by_name : IsRefName name
  pub by_target : ForSome target IsRefName

-- one name comes before the other, in the order of their bytes
abbrev pub comes_before : List ℕ → List ℕ → Bool
comes_before a b = is_lt (slice_cmp nat_cmp a b)

-- the names are in their order, and none comes twice
abbrev pub IsRising : List Entry → Type 0
IsRising refs = AllAdjacentBelow (λ a b. comes_before a.name b.name ≡ true) refs (length refs)

-- the object names of a reference are of the format
pub record IsOfFormat (format : Format) (ref : Entry) : Type 0 where
  pub by_id : ref.id.format ≡ format
  pub by_peeled : ForSome ref.peeled (λ id. id.format ≡ format)

-- the object of a reference and the object that it peels to are of one format
pub record HasOneFormat (ref : Entry) : Type 0 where
  pub by_peeled : (id : ObjectName) → ref.peeled ≡ Some id → id.format ≡ ref.id.format

-- the name that an unborn `HEAD` may point to: it is the name of a reference, and there is no reference `HEAD`
pub record IsUnbornHead (refs : List Entry) (target : List ℕ) : Type 0 where
  pub named : IsRefName target
  pub no_head : All (λ ref. ref.name ≢ codes "HEAD") refs

-- the answers of a repository: its format, its references, the name that an unborn `HEAD` points to, the objects that it has, the size of
-- an object in bytes, and for a request whether it is ready to send a pack, the commits at the shallow boundary, and the pack
pub record Repository : Type 0 where
  pub format : Format
  pub refs : List Entry
  pub unborn_head : Option (List ℕ)
  pub has : ObjectName → Bool
  pub object_size : ObjectName → Option ℕ
  pub is_ready : List Arg → Bool
  pub boundaries : List Arg → List Boundary
  pub pack : List Arg → List ℕ

-- the line is no `unshallow` line, or that of one of these commits
abbrev pub IsUnshallowOf : List ObjectName → Boundary → Type 0
IsUnshallowOf shallows (Shallow id) = Unit {0}
IsUnshallowOf shallows (Unshallow id) = Any (λ shallow. shallow ≡ id) shallows

-- the answers of a repository, and how many of its reads have failed
pub record RepoState : Type 0 where
  pub answers : Repository
  pub failures : ℕ

-- the conditions on the answers of a repository
pub record IsSound (repo : Repository) : Type 0 where
  pub rising : IsRising repo.refs
  pub named : All (λ ref. IsNamed ref.name ref.target) repo.refs
  pub of_format : All (IsOfFormat repo.format) repo.refs
  pub unborn : ForSome repo.unborn_head (IsUnbornHead repo.refs)
  pub boundaries_of_format : (request : List Arg) → All (λ boundary. (object_of boundary).format ≡ repo.format) (repo.boundaries request)
  pub unshallow : (request : List Arg) → All (IsUnshallowOf (shallows_in request)) (repo.boundaries request)

-- the result for a name in a repository: the object, or nothing if no reference has the name
abbrev pub IsFound : List Entry → List ℕ → Option ObjectName → Type 0
IsFound refs name found =
    MatchOption found (All (λ ref. ref.name ≢ name) refs) (λ id. Any (λ ref. (ref.name ≡ name) × (ref.id ≡ id)) refs)

-- the object of the first reference that has the name
abbrev pub found_ref : List Entry → List ℕ → Option ObjectName
found_ref [] name = None
found_ref (ref ∷ refs) name = if bytes_eq ref.name name then Some ref.id else found_ref refs name

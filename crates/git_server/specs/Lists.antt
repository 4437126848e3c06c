-- The parts of a repository that consists of a few lists, and the reasons to refuse such lists.
use Rattle.std.specs.Prelude.{◌≡◌, ◌⊎◌, ℕ, List, [], ◌∷◌, Option, All, Vec, codes, unwrap_or, if◌then◌else◌}
use Rattle.std.specs.Option.{ForSome}
use Rattle.git_names.specs.declared.object_format.Format.{Format}
use Rattle.git_names.specs.ObjectName.{ObjectName}
use Rattle.git_msg.specs.declared.Boundary.{Boundary}
use Rattle.git_msg.specs.Asked.{is_empty, filters_in}
use Rattle.git_server.specs.Repository.{Entry, IsRising, IsOfFormat, IsUnbornHead, bytes_of}
use Rattle.git_server.specs.Objects.{AreRising, object_of}
use Rattle.git_server.specs.declared.list_repo.RepoLists.{RepoLists}
use Rattle.git_server.specs.declared.pack.Pack.{Pack}
use Rattle.git_server.specs.PackBytes.{bytes_in, bytes_in_some}
use Rattle.git_server.specs.declared.list_repo.RepoFault.{RepoFault}
use Rattle.git_server.specs.declared.list_repo.RepoFault.TheVariants.{UnsortedRefs, UnsortedObjects, MixedFormats, UnbornHead}
use Rattle.git_msg.specs.Arguments.{Arg}

-- the format, the references, the objects with their sizes, the number of common objects after which it is ready, the shallow
-- boundary, the pack, the name that an unborn `HEAD` points to, and the pack for requests that have a filter, if that
-- is a different one
pub record Lists : Type 0 where
  pub format : Format
  pub refs : List Entry
  pub objects : List (ObjectName × ℕ)
  pub ready_after : Option ℕ
  pub boundaries : List Boundary
  pub pack : List ℕ
  pub unborn_head : Option (List ℕ)
  pub filtered : Option (List ℕ)

module _ {A : Type 0} where
  -- the lists in these vectors and packs
  abbrev pub lists_from : Format → Vec Entry A → Vec (ObjectName × ℕ) A → Option ℕ → Vec Boundary A → Pack → Option (Vec ℕ A)
      → Option Pack → Lists
  lists_from format refs objects ready_after boundaries pack unborn_head filtered = record {
    format = format;
    refs = refs.items;
    objects = objects.items;
    ready_after = ready_after;
    boundaries = boundaries.items;
    pack = bytes_in pack;
    unborn_head = bytes_of unborn_head;
    filtered = bytes_in_some filtered;
  }

abbrev pub lists_in : RepoLists → Lists
lists_in l = lists_from l.format l.refs l.objects l.ready_after l.boundaries l.pack l.unborn_head l.filtered

-- the pack for a request: the filtered one if there is one and the request has a filter, otherwise the pack
abbrev pub pack_for : Lists → List Arg → List ℕ
pack_for lists request = if is_empty (filters_in request) then lists.pack else unwrap_or lists.filtered lists.pack

-- all object names are of the format
pub record AreOfFormat (lists : Lists) : Type 0 where
  pub by_refs : All (IsOfFormat lists.format) lists.refs
  pub by_objects : All (λ object. object.0.format ≡ lists.format) lists.objects
  pub by_boundaries : All (λ boundary. (object_of boundary).format ≡ lists.format) lists.boundaries

-- the lists are a repository
pub record IsRepository (lists : Lists) : Type 0 where
  pub rising_refs : IsRising lists.refs
  pub rising_objects : AreRising lists.objects
  pub of_format : AreOfFormat lists
  pub unborn_head : ForSome lists.unborn_head (IsUnbornHead lists.refs)

-- the name that users see
abbrev pub repo_fault_name : RepoFault → List ℕ
repo_fault_name UnsortedRefs = codes "UnsortedRefs"
repo_fault_name UnsortedObjects = codes "UnsortedObjects"
repo_fault_name MixedFormats = codes "MixedFormats"
repo_fault_name UnbornHead = codes "UnbornHead"

-- the rules for the lists, each with the error for lists that break it
abbrev pub Meets : Lists → RepoFault → Type 0
Meets lists UnsortedRefs = IsRising lists.refs
Meets lists UnsortedObjects = AreRising lists.objects
Meets lists MixedFormats = AreOfFormat lists
Meets lists UnbornHead = ForSome lists.unborn_head (IsUnbornHead lists.refs)

-- the first of these rules that is broken is this one
abbrev pub IsFirstBroken : (RepoFault → Type 0) → List RepoFault → RepoFault → Type 0
IsFirstBroken Met [] fault = ⊥
IsFirstBroken Met (rule ∷ rules) fault = ((fault ≡ rule) × ¬ Met rule) ⊎ (Met rule × IsFirstBroken Met rules fault)

-- why the lists are not a repository: the first of the rules, in this order, that they break
abbrev pub IsUnfit : RepoFault → Lists → Type 0
IsUnfit fault lists = IsFirstBroken (Meets lists) (UnsortedRefs ∷ UnsortedObjects ∷ MixedFormats ∷ UnbornHead ∷ []) fault

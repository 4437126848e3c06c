-- The name of the reference that was reported last, and the memory that it takes.
use Rattle.std.specs.Prelude.{ℕ, ◌+◌, List, length, Option, Some, None, vec_capacity}
use Rattle.git_server.specs.Repository.{Entry}
use Rattle.git_host.specs.declared.last_name.NameCopy.{NameCopy}
use Rattle.git_host.specs.declared.last_name.LastName.{LastName}
use Rattle.git_host.specs.declared.last_name.LastName.TheVariants.{Nothing, Entry as OfEntry, Copied}

-- of the name that a symbolic reference points to
abbrev pub target_bytes : Option (List ℕ) → ℕ
target_bytes None = 0
target_bytes (Some target) = length target

-- of a reference: of its name, and of the name that it points to. Its object names lie in the struct
abbrev pub entry_bytes : Entry → ℕ
entry_bytes entry = length entry.name + target_bytes entry.target

module _ {A : Type 0} where
  abbrev pub copied_name : NameCopy A → List ℕ
  copied_name copy = copy.text.items

  -- the name, if a reference was reported
  abbrev pub last_name : LastName A → Option (List ℕ)
  last_name Nothing = None
  last_name (OfEntry entry) = Some entry.name
  last_name (Copied copy) = Some (copied_name copy)

  -- the bytes that it takes: those of the reference, or all of the buffer that has the copy
  abbrev pub last_bytes : LastName A → ℕ
  last_bytes Nothing = 0
  last_bytes (OfEntry entry) = entry_bytes entry
  last_bytes (Copied copy) = vec_capacity copy.text

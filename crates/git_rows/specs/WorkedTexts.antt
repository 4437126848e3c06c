-- The texts that the rows are about.
use Rattle.std.specs.Prelude.{ℕ, Bool, false, List, [], ◌∷◌, ◌++◌, None, Some, codes}
use Rattle.git_msg.specs.Asked.{Asked, ls_refs}
use Rattle.git_msg.specs.Kept.{Kept}
use Rattle.git_msg.specs.declared.Boundary.TheVariants.{Shallow}
use Rattle.git_names.specs.declared.object_format.Format.TheVariants.{Sha1}
use Rattle.git_server.specs.Lists.{Lists}
use Rattle.git_server.specs.Repository.{Entry}
use Rattle.git_rows.specs.Worked.{all_a, asked_with, name_a}

-- two references, an object, a line stating that the repository is ready after one common object, and a line of its shallow boundary
abbrev pub repository_text : List ℕ
repository_text =
    codes "format sha1\nref " ++ all_a ++ codes " HEAD\nref " ++ all_a ++ codes " refs/x\nobject " ++ all_a ++ codes " 12\nready 1\nshallow "
    ++ all_a ++ codes "\n"

-- a reference of this name
abbrev pub bare_entry : List ℕ → Entry
bare_entry name = record { name = name; id = name_a; target = None; peeled = None }

-- the repository of that text, with this size of the object
abbrev pub lists_of_size : ℕ → Lists
lists_of_size size = record {
  format = Sha1;
  refs = bare_entry (codes "HEAD") ∷ bare_entry (codes "refs/x") ∷ [];
  objects = (name_a, size) ∷ [];
  ready_after = Some 1;
  boundaries = Shallow name_a ∷ [];
  pack = [];
  unborn_head = None;
  filtered = None;
}

-- a request for references as it is kept: its limit, whether it asks for targets, and how many bytes the texts of its lines have
abbrev pub kept_refs : (limit : ℕ) (symrefs : Bool) (kept : ℕ) → Kept Asked
kept_refs limit symrefs kept = record { format = Sha1; asked = ls_refs (asked_with symrefs false []); kept = kept; limit = limit; stored = 0 }

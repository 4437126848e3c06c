-- The repository and the bytes that the rows of sessions are about.
use Rattle.std.specs.Prelude.{ℕ, Bool, false, List, [], ◌∷◌, ◌++◌, None, Some, codes, if◌then◌else◌}
use Rattle.std.specs.Str.{bytes_eq}
use Rattle.git_msg.specs.declared.Boundary.TheVariants.{Shallow}
use Rattle.git_names.specs.declared.object_format.Format.TheVariants.{Sha1}
use Rattle.git_server.specs.Repository.{Repository}
use Rattle.git_server.specs.Sessions.{Setting}
use Rattle.git_rows.specs.Worked.{all_a, all_b, name_a, name_b, offer_all}

-- A symbolic reference and a tag, the object of 12 bytes that both lead to, and a pack of five bytes. If the flag is set, the repository is ready to
-- send the pack, and its history is cut off at that object.
abbrev pub repo_where : Bool → Repository
repo_where ready = record {
  format = Sha1;
  refs =
      record { name = codes "HEAD"; id = name_a; target = Some (codes "refs/x"); peeled = None }
      ∷ record { name = codes "refs/tags/v1"; id = name_b; target = None; peeled = Some name_a } ∷ [];
  unborn_head = None;
  has = λ id. bytes_eq id.bytes name_a.bytes;
  object_size = λ id. if bytes_eq id.bytes name_a.bytes then Some 12 else None;
  is_ready = λ q. ready;
  boundaries = λ q. if ready then Shallow name_a ∷ [] else [];
  pack = λ q. codes "PACK!";
}

-- it is not ready
abbrev pub repo : Repository
repo = repo_where false

-- a session with a limit of 49 bytes on a request's arguments
abbrev pub setting : Setting
setting = record { offer = offer_all; limit = 49; advertise = false; repo = repo; failures = 0 }

-- a request for references, and the answer to it
abbrev pub ls_refs_bytes : List ℕ
ls_refs_bytes = codes "0014command=ls-refs\n0000"

abbrev pub listed_bytes : List ℕ
listed_bytes = codes "0032" ++ all_a ++ codes " HEAD\n003a" ++ all_b ++ codes " refs/tags/v1\n0000"

-- a fetch of one object, with `done`
abbrev pub fetch_bytes : List ℕ
fetch_bytes = codes "0012command=fetch\n00010032want " ++ all_a ++ codes "\n0009done\n0000"

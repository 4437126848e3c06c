-- The states of a run's streams in the rows, and the transcript that a play writes.
use Rattle.std.specs.Prelude.{ℕ, Bool, false, true, List, [], ◌++◌, None, codes}
use Rattle.git_names.specs.declared.object_format.Format.TheVariants.{Sha1}
use Rattle.git_server.specs.Repository.{Repository, RepoState}
use Rattle.git2show_lib.specs.Others.{Advertised}
use Rattle.git2show_lib.specs.Machine.CheckFaults.{Standing}
use Rattle.git2show_lib.specs.declared.views.Form.TheVariants.{Json, Lines}
use Rattle.git2show_lib.specs.declared.views.RequestState.TheVariants.{Between}
use Rattle.git2show_lib.specs.declared.views.Tally.{Tally}
use Rattle.git2show_lib.specs.declared.views.View.{View}
use Rattle.git_rows.specs.Worked.{offer_all}
use Rattle.git_rows.specs.WorkedSessions.{repo}

-- no read failed, and the stream has ended if the flag is set
abbrev pub standing : Bool → Standing
standing ended = record { ended = ended; failed = false }

-- the repository, before any read of it failed
abbrev pub repo_state : RepoState
repo_state = record { answers = repo; failures = 0 }

-- an empty repository
abbrev pub bare_repo : Repository
bare_repo = record {
  format = Sha1;
  refs = [];
  unborn_head = None;
  has = λ id. false;
  object_size = λ id. None;
  is_ready = λ q. false;
  boundaries = λ q. [];
  pack = λ q. [];
}

abbrev pub bare_state : RepoState
bare_state = record { answers = bare_repo; failures = 0 }

-- the transcript of an advertisement of all features
abbrev pub offer_transcript : List ℕ
offer_transcript =
    codes "capability agent=git2/1\ncapability ls-refs=unborn\ncapability fetch=shallow ref-in-want wait-for-done filter\n"
    ++ codes "capability server-option\ncapability object-format=sha1\ncapability object-info\noffered\n"

-- a view that leaves packs out
abbrev pub without_packs : View
without_packs = record { form = Lines; from = 0; no_pack = true; only = None }

-- a view that shows JSON from an offset on
abbrev pub from_eight : View
from_eight = record { form = Json; from = 8; no_pack = false; only = None }

-- what was counted up to a packfile section
abbrev pub tally_before : Tally
tally_before = record { bytes = 9; packets = 1; requests = 0; pack = 0; in_pack = true; request = Between; stray = None }

-- what a server advertised that has bundles, beside all features
abbrev pub with_bundles : Advertised
with_bundles = record { offer = offer_all; text = codes "bundle-uri\n" }

-- A server of a play before its first byte.
use Rattle.std.proofs.Common.{◌≡◌, ℕ, Bool, false, [], None, refl}
use Rattle.git_names.specs.declared.object_format.Format.{Format}
use Rattle.git_msg.specs.Advertisement.{everything}
use Rattle.git_msg.specs.declared.offers.Offer.{Offer}
use Rattle.git_client.specs.Parts.{terms_of}
use Rattle.git_client.specs.declared.events.Ending.TheVariants.{FlushOnly}
use Rattle.git_server.specs.Repository.{RepoState}
use Rattle.git_server.specs.Machine.Server.{Running, outcome_of}
use Rattle.git_server.specs.Sessions.{Setting}
use Rattle.git_server.specs.declared.server.Server.{Server}
use Rattle.git_server.proofs.AtRest.{open_at_first}
use Rattle.git_laws.specs.Plays.{setting_of}
use Rattle.git2show_lib.specs.Machine.PlaySteps.{Stands}

-- the setting of a server with this offer
abbrev pub setting_with : Offer → ℕ → Bool → RepoState → Setting
setting_with offer limit advertise repo = record {
  offer = offer;
  limit = limit;
  advertise = advertise;
  repo = repo.answers;
  failures = repo.failures;
}

module _ {R A : Type 0} (state : R → RepoState) (server : Server R A) (repo : RepoState) (limit : ℕ) (advertise : Bool) (format : Format) (offer : Offer)
    (all : offer ≡ everything format) (same : format ≡ repo.answers.format)
    (runs : Running state (setting_with offer limit advertise repo) [] false [] server) where
  pub goes_on : outcome_of server ≡ None
  goes_on = open_at_first state server (setting_with offer limit advertise repo) runs

  pub begins : Stands state (setting_of (terms_of repo.answers.format FlushOnly) limit repo advertise) [] [] server
  begins = record {
    used = [];
    unused = [];
    parts = refl;
    runs = rw (all, same) at runs;
    keeps = λ _. refl;
    in_time = λ fault ended late. let none = goes_on in absurd (cc);
  }

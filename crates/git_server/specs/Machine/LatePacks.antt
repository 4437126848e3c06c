-- Packs that are not known yet, and answers without any of their bytes.
use Rattle.std.specs.Prelude.{◌≡◌, ℕ, Bool, false, List}
use Rattle.git_msg.specs.declared.offers.Offer.{Offer}
use Rattle.git_server.specs.Repository.{Repository, RepoState}
use Rattle.git_server.specs.FetchAnswers.{is_ready_for}
use Rattle.git_server.specs.Sessions.{Setting}
use Rattle.git_server.specs.declared.answer.Answer.{Answer}
use Rattle.git_server.specs.declared.answer.Answer.TheVariants.{References, Fetching, Sizes}
use Rattle.git_server.specs.declared.fetching.FetchPlace.{FetchPlace}
use Rattle.git_server.specs.declared.fetching.FetchPlace.TheVariants.{Acknowledgments, Delimiter, ShallowInfo, WantedRefs, Packfile}
use Rattle.git_server.specs.declared.server.Phase.{Phase}
use Rattle.git_server.specs.declared.server.Phase.TheVariants.{Advertising, Between, Within, Answering, Refusing, Ended}
use Rattle.git_msg.specs.Arguments.{Arg}

-- the repository with these packs
abbrev pub with_packs : (List Arg → List ℕ) → Repository → Repository
with_packs packs repo = record repo { pack = packs }

-- the setting with these packs
abbrev pub setting_with : (List Arg → List ℕ) → Setting → Setting
setting_with packs s = record s { repo = with_packs packs s.repo }

-- the repository's answers, with these packs
abbrev pub state_with : {R : Type 0} → (List Arg → List ℕ) → (R → RepoState) → R → RepoState
state_with packs state repo = record { answers = with_packs packs (state repo).answers; failures = (state repo).failures }

-- the setting of a session that begins with this repository
abbrev pub first_setting : {R : Type 0} → (R → RepoState) → R → Offer → ℕ → Bool → Setting
first_setting state repo offer limit advertise = record {
  offer = offer;
  limit = limit;
  advertise = advertise;
  repo = (state repo).answers;
  failures = (state repo).failures;
}

-- from this place on the answer to the fetch has no byte of a pack: it is of acknowledgments alone, since the repository is not ready
abbrev pub HasNoPackFrom : Repository → List Arg → FetchPlace → Type 0
HasNoPackFrom repo q (Acknowledgments place) = is_ready_for repo q ≡ false
HasNoPackFrom repo q Delimiter = ⊥
HasNoPackFrom repo q (ShallowInfo place) = ⊥
HasNoPackFrom repo q (WantedRefs place) = ⊥
HasNoPackFrom repo q (Packfile place) = ⊥

module _ {A : Type 0} where
  -- the answer has none either, from its place on
  abbrev pub HasNoPack : Repository → Answer A → Type 0
  HasNoPack repo (References request place) = Unit {0}
  HasNoPack repo (Fetching request place) = HasNoPackFrom repo request.asked place
  HasNoPack repo (Sizes request place) = Unit {0}

  -- nor have the packets that are sent in this phase
  abbrev pub HasNoPackUnsentIn : Repository → Phase A → Type 0
  HasNoPackUnsentIn repo (Answering answer offset) = HasNoPack repo answer
  HasNoPackUnsentIn repo (Advertising line) = Unit {0}
  HasNoPackUnsentIn repo Between = Unit {0}
  HasNoPackUnsentIn repo Within = Unit {0}
  HasNoPackUnsentIn repo (Refusing fault) = Unit {0}
  HasNoPackUnsentIn repo (Ended outcome) = Unit {0}

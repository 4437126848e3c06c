-- A packet of a pack has all bytes that the repository returned for it.
use Rattle.std.specs.Prelude.{◌≡◌, ◌≤◌, ◌⊎◌, ℕ, List, length}
use Rattle.git_pkt.specs.Packets.{Pkt, body_of, flush, longest_payload}
use Rattle.git_pkt.specs.Bands.{band_packet}
use Rattle.git_pkt.specs.declared.band.Band.TheVariants.{Pack as PackBand}
use Rattle.git_server.specs.Packs.{pack_source_packet}
use Rattle.git_server.specs.declared.packfile.PackPlace.{PackPlace}
use Rattle.git_server.specs.declared.packfile.PackPlace.TheVariants.{Header, Pack}
use Rattle.git_server.specs.declared.fetching.FetchPlace.{FetchPlace}
use Rattle.git_server.specs.declared.fetching.FetchPlace.TheVariants.{Acknowledgments, Delimiter, ShallowInfo, WantedRefs, Packfile}
use Rattle.git_server.specs.declared.answer.Answer.{Answer}
use Rattle.git_server.specs.declared.answer.Answer.TheVariants.{References, Fetching, Sizes}
use Rattle.git_server.specs.declared.server.Phase.{Phase}
use Rattle.git_server.specs.declared.server.Phase.TheVariants.{Advertising, Between, Within, Answering, Refusing, Ended}
use Rattle.git_msg.specs.Arguments.{Arg}

-- the packet has as many bytes of the pack as a read for a whole packet may return, or it ends the section
abbrev pub IsFullPart : (ℕ → ℕ → Type 0) → Pkt → Type 0
IsFullPart gives packet =
    ((part : List ℕ) × (packet ≡ band_packet PackBand part) × gives 65515 (length part)) ⊎ (packet ≡ flush) ⊎ (packet ≡ pack_source_packet)

-- there is such a packet
pub record HasFullPart (gives : ℕ → ℕ → Type 0) (Is : Pkt → Type 0) : Type 0 where
  pub packet : Pkt
  pub fits : length (body_of packet) ≤ longest_payload
  pub is : Is packet
  pub full : IsFullPart gives packet

-- there is one, if the pack is sent next, from an offset on
abbrev pub FillsPart : (ℕ → ℕ → ℕ → Type 0) → PackPlace → (Pkt → Type 0) → Type 0
FillsPart gives Header Is = Unit {0}
FillsPart gives (Pack offset) Is = HasFullPart (gives offset) Is

abbrev pub FillsFetch : (ℕ → ℕ → ℕ → Type 0) → FetchPlace → (Pkt → Type 0) → Type 0
FillsFetch gives (Acknowledgments place) Is = Unit {0}
FillsFetch gives Delimiter Is = Unit {0}
FillsFetch gives (ShallowInfo place) Is = Unit {0}
FillsFetch gives (WantedRefs place) Is = Unit {0}
FillsFetch gives (Packfile place) Is = FillsPart gives place Is

module _ {A : Type 0} where
  abbrev pub FillsAnswer : (List Arg → ℕ → ℕ → ℕ → Type 0) → Answer A → (Pkt → Type 0) → Type 0
  FillsAnswer gives (References request next) Is = Unit {0}
  FillsAnswer gives (Fetching request place) Is = FillsFetch (gives request.asked) place Is
  FillsAnswer gives (Sizes request place) Is = Unit {0}

  abbrev pub FillsPhase : (List Arg → ℕ → ℕ → ℕ → Type 0) → Phase A → (Pkt → Type 0) → Type 0
  FillsPhase gives (Advertising line) Is = Unit {0}
  FillsPhase gives Between Is = Unit {0}
  FillsPhase gives Within Is = Unit {0}
  FillsPhase gives (Answering answer offset) Is = FillsAnswer gives answer Is
  FillsPhase gives (Refusing fault) Is = Unit {0}
  FillsPhase gives (Ended outcome) Is = Unit {0}

-- A packet of a pack has all that the repository gave for it.
use Rattle.std.proofs.Common.{arith, ◌≡◌, ◌≤◌, ℕ, List, length, take, refl, sym, subst, inl, inr}
use Rattle.std.proofs.lemmas.Grind.{common_steps}
use Rattle.git_pkt.specs.Packets.{Pkt, body_of, longest_payload}
use Rattle.git_pkt.specs.declared.reader.PacketReader.{PacketReader}
use Rattle.git_server.specs.Machine.FullParts.{FillsAnswer, FillsFetch, FillsPart, FillsPhase, IsFullPart}
use Rattle.git_server.specs.Machine.PackParts.{IsGiven, IsPartRead, WritesPart, part_packet}
use Rattle.git_server.specs.Machine.Phases.{turn_in}
use Rattle.git_server.specs.Repository.{RepoState}
use Rattle.git_server.specs.Machine.WrittenPackets.{IsAtFront}
use Rattle.git_server.specs.declared.answer.Answer.{Answer}
use Rattle.git_server.specs.declared.answer.Answer.TheVariants.{References, Fetching, Sizes}
use Rattle.git_server.specs.declared.fetching.FetchPlace.{FetchPlace}
use Rattle.git_server.specs.declared.fetching.FetchPlace.TheVariants.{Acknowledgments, Delimiter, ShallowInfo, WantedRefs, Packfile}
use Rattle.git_server.specs.declared.outcome.Outcome.{Outcome}
use Rattle.git_server.specs.declared.server.Phase.{Phase}
use Rattle.git_server.specs.declared.server.Phase.TheVariants.{Advertising, Between, Within, Answering, Refusing, Ended}
use Rattle.git_server.specs.declared.server.Turn.TheVariants.{Finished}
use Rattle.git_server.specs.declared.packfile.PackPlace.{PackPlace}
use Rattle.git_server.specs.declared.packfile.PackPlace.TheVariants.{Header, Pack}
use Rattle.git_server.specs.declared.packfile.PartRead.{PartRead}
use Rattle.git_server.specs.declared.packfile.PartRead.TheVariants.{Bytes, End, Failed}
use Rattle.git_msg.specs.Arguments.{Arg}

full_part : (gives : ℕ → ℕ → Type 0) (pack space : List ℕ) (offset : ℕ) (part : PartRead) → IsPartRead pack offset space part → IsGiven gives part
    → IsFullPart gives (part_packet space part)
full_part gives pack space offset (Bytes count) (some, part) given =
    let fits = part.fits in
    let long : length (take count space) ≡ count = grind (arith, common_steps) in
    inl (take count space, refl, subst (gives 65515) (sym long) given)
full_part gives pack space offset End h given = inr (inl refl)
full_part gives pack space offset Failed h given = inr (inr refl)

-- the packet of a part that was written
pub written_full : (gives : ℕ → ℕ → ℕ → Type 0) (pack : List ℕ) (offset : ℕ) (place : PackPlace) → place ≡ Pack offset
    → (repo_old : RepoState) (old : PacketReader) (part : PartRead) (repo_new : RepoState) (new : PacketReader)
    → WritesPart (gives offset) pack offset repo_old old part repo_new new → FillsPart gives place (IsAtFront new)
written_full gives pack offset place was repo_old old part repo_new new h =
    subst (λ (p : PackPlace). FillsPart gives p (IsAtFront new)) (sym was)
    (record {
      packet = part_packet h.space part;
      fits = h.writes.fits;
      is = h.writes.held;
      full = full_part (gives offset) pack h.space offset part h.is_read h.given;
    })

-- what such a packet is may be stated in other words
module _ (Is Also : Pkt → Type 0) (then : (packet : Pkt) → length (body_of packet) ≤ longest_payload → Is packet → Also packet) where
  part_so : (gives : ℕ → ℕ → ℕ → Type 0) (place : PackPlace) → FillsPart gives place Is → FillsPart gives place Also
  part_so gives Header h = tt
  part_so gives (Pack offset) h = record { packet = h.packet; fits = h.fits; is = then h.packet h.fits h.is; full = h.full }

  fetch_so : (gives : ℕ → ℕ → ℕ → Type 0) (place : FetchPlace) → FillsFetch gives place Is → FillsFetch gives place Also
  fetch_so gives (Acknowledgments place) h = tt
  fetch_so gives Delimiter h = tt
  fetch_so gives (ShallowInfo place) h = tt
  fetch_so gives (WantedRefs place) h = tt
  fetch_so gives (Packfile place) h = part_so gives place h

  module _ {A : Type 0} (gives : List Arg → ℕ → ℕ → ℕ → Type 0) where
    answer_so : (answer : Answer A) → FillsAnswer gives answer Is → FillsAnswer gives answer Also
    answer_so (References request next) h = tt
    answer_so (Fetching request place) h = fetch_so (gives request.asked) place h
    answer_so (Sizes request place) h = tt

    pub filled_so : (phase : Phase A) → FillsPhase gives phase Is → FillsPhase gives phase Also
    filled_so (Advertising line) h = tt
    filled_so Between h = tt
    filled_so Within h = tt
    filled_so (Answering answer offset) h = answer_so answer h
    filled_so (Refusing fault) h = tt
    filled_so (Ended outcome) h = tt

-- nothing is pending of a pack where the session has ended
pub ended_fills : {A : Type 0} (gives : List Arg → ℕ → ℕ → ℕ → Type 0) (Is : Pkt → Type 0) (phase : Phase A) (outcome : Outcome)
    → turn_in phase ≡ Finished outcome → FillsPhase gives phase Is
ended_fills gives Is (Advertising line) outcome h = tt
ended_fills gives Is Between outcome h = tt
ended_fills gives Is Within outcome h = tt
ended_fills gives Is (Answering answer offset) outcome h = absurd (cc)
ended_fills gives Is (Refusing fault) outcome h = tt
ended_fills gives Is (Ended other) outcome h = tt

-- The phases of a server in its session.
use Rattle.std.specs.Prelude.{◌≡◌, ◌≢◌, ℕ, Bool, true, false, Option, Some, None, List, [], ◌∷◌, length}
use Rattle.git_pkt.specs.Packets.{Pkt}
use Rattle.git_pkt.specs.Splits.{Given}
use Rattle.git_pkt.specs.declared.fault.Fault.{Fault}
use Rattle.git_pkt.specs.declared.fault.Kind.{Kind}
use Rattle.git_pkt.specs.declared.fault.Kind.TheVariants.{PackSource, RemoteError}
use Rattle.git_msg.specs.declared.offers.Offer.{Offer}
use Rattle.git_msg.specs.declared.reader.ReadGot.{ReadGot}
use Rattle.git_msg.specs.declared.reader.ReadGot.TheVariants.{More, Request as Whole, Stop, Failed as RefusedPacket}
use Rattle.git_server.specs.Repository.{Repository}
use Rattle.git_server.specs.Answers.{error_packet}
use Rattle.git_server.specs.Packs.{whole, broken}
use Rattle.git_server.specs.Sessions.{IsLastAt}
use Rattle.git_server.specs.Machine.AnsweredRequest.{IsAnswerFrom, answer_to, kept_with, most_from, stored_with}
use Rattle.git_server.specs.Machine.AdvertisementLines.{advertisement_from}
use Rattle.git_server.specs.declared.advertisement.AdvertisementLine.{AdvertisementLine}
use Rattle.git_server.specs.declared.outcome.Outcome.{Outcome}
use Rattle.git_server.specs.declared.outcome.Outcome.TheVariants.{Flush, Refused}
use Rattle.git_server.specs.declared.server.Turn.{Turn}
use Rattle.git_server.specs.declared.server.Turn.TheVariants.{NeedInput, Finished, Packet as IsUnsentPacket}
use Rattle.git_server.specs.declared.server.Phase.{Phase}
use Rattle.git_server.specs.declared.server.Phase.TheVariants.{Advertising, Between, Within, Answering, Refusing, Ended}

-- the error of an outcome, if it has one
abbrev pub refusal_in : Option Outcome → Option Fault
refusal_in (Some (Refused fault)) = Some fault
refusal_in _ = None

-- the outcome if the source of a pack failed
abbrev pub lost_pack : ℕ → Outcome
lost_pack flush_offset = Refused (record { kind = PackSource; offset = flush_offset })

module _ {A : Type 0} where
  -- the server waits for bytes
  abbrev pub reads_in : Phase A → Bool
  reads_in Between = true
  reads_in Within = true
  reads_in _ = false

  -- a packet waits to be pulled
  abbrev pub has_unsent_in : Phase A → Bool
  has_unsent_in (Advertising line) = true
  has_unsent_in (Answering answer offset) = true
  has_unsent_in (Refusing fault) = true
  has_unsent_in _ = false

  -- the outcome, once there is one
  abbrev pub outcome_in : Phase A → Option Outcome
  outcome_in (Refusing fault) = Some (Refused fault)
  outcome_in (Ended outcome) = Some outcome
  outcome_in _ = None

  -- in this phase these packets may be all that still have to be pulled, in this order
  abbrev pub AreUnsent : Offer → Repository → Phase A → List Pkt → Type 0
  AreUnsent offer repo (Advertising line) later = later ≡ advertisement_from offer line
  AreUnsent offer repo (Answering answer offset) later = IsAnswerFrom whole repo answer later
  AreUnsent offer repo (Refusing fault) later = later ≡ error_packet fault ∷ []
  AreUnsent offer repo _ later = later ≡ []

  -- with these packets the answer may break off
  abbrev pub MayBreak : Repository → Phase A → List Pkt → Type 0
  MayBreak repo (Answering answer offset) later = IsAnswerFrom broken repo answer later
  MayBreak repo _ later = ⊥

  -- the maximum number of packets that wait
  abbrev pub most_unsent : Offer → Repository → Phase A → ℕ
  most_unsent offer repo (Advertising line) = length (advertisement_from offer line)
  most_unsent offer repo (Answering answer offset) = most_from repo answer
  most_unsent offer repo (Refusing fault) = 1
  most_unsent offer repo _ = 0

  -- the number of bytes in the argument lines of the request that is being answered
  abbrev pub kept_in : Phase A → ℕ
  kept_in (Answering answer offset) = kept_with answer
  kept_in _ = 0

  -- the number of bytes stored of the request that is being answered. Each phase is named with its parts, so that no part can be added
  -- without being counted.
  abbrev pub stored_in : Phase A → ℕ
  stored_in (Advertising line) = 0
  stored_in Between = 0
  stored_in Within = 0
  stored_in (Answering answer offset) = stored_with answer
  stored_in (Refusing fault) = 0
  stored_in (Ended outcome) = 0

  -- whether some packets of a request that is not whole came
  abbrev pub LeftIn : Phase A → List Given → Type 0
  LeftIn Within left = left ≢ []
  LeftIn _ left = left ≡ []

  -- the place of the flush of a request that is being answered: it is the last of the packets taken
  abbrev pub FlushIsAt : Phase A → List Given → Type 0
  FlushIsAt (Answering answer offset) packets = IsLastAt offset packets
  FlushIsAt _ packets = Unit {0}

  -- an error packet ends the session at once; any other error is reported to the peer
  abbrev pub refused_by : Kind → Fault → Phase A
  refused_by RemoteError fault = Ended (Refused fault)
  refused_by _ fault = Refusing fault

  -- the phase after a packet at this offset
  abbrev pub phase_after : ℕ → ReadGot A → Phase A
  phase_after offset More = Within
  phase_after offset (Whole request) = Answering (answer_to request) offset
  phase_after offset Stop = Ended Flush
  phase_after offset (RefusedPacket fault) = refused_by fault.kind fault

  -- the phase after a line of the advertisement
  abbrev pub advertising_phase : Option AdvertisementLine → Phase A
  advertising_phase (Some next) = Advertising next
  advertising_phase None = Between

  -- whether a packet has to be sent, and what to do if there is none
  abbrev pub turn_in : Phase A → Turn
  turn_in Between = NeedInput
  turn_in Within = NeedInput
  turn_in (Ended outcome) = Finished outcome
  turn_in _ = IsUnsentPacket

-- The state that a server represents: the bytes that it used, and those that it sent.
use Rattle.std.specs.Prelude.{◌≡◌, ◌<◌, ◌≤◌, ◌+◌, ℕ, Bool, false, Option, Some, None, List, []}
use Rattle.git_pkt.specs.Packets.{Pkt}
use Rattle.git_pkt.specs.Splits.{Given}
use Rattle.git_pkt.specs.Machine.PacketReader.{Reads, bytes_held as held_in_packet, fault_of}
use Rattle.git_pkt.specs.declared.reader.PacketReader.{PacketReader}
use Rattle.git_msg.specs.Asked.{Asked}
use Rattle.git_msg.specs.Machine.RequestReader.{Takes, offer_of, limit_in, kept_so_far, stored_so_far}
use Rattle.git_msg.specs.WholeRequests.{AreRequests}
use Rattle.git_server.specs.Repository.{RepoState}
use Rattle.git_server.specs.Answers.{AllFit, spelled}
use Rattle.git_server.specs.Packs.{broken}
use Rattle.git_server.specs.Sessions.{Setting, Begins, IsRequest, IsSent, IsAnswering, IsEnding}
use Rattle.git_server.specs.Machine.Phases.{FlushIsAt, LeftIn, kept_in, outcome_in, MayBreak, AreUnsent, reads_in, stored_in}
use Rattle.git_server.specs.declared.outcome.Outcome.{Outcome}
use Rattle.git_server.specs.declared.outcome.Outcome.TheVariants.{Refused}
use Rattle.git_pkt.specs.declared.fault.Fault.{Fault}
use Rattle.git_pkt.specs.declared.fault.Kind.TheVariants.{PackSource}
use Rattle.git_msg.specs.declared.offers.Offer.{Offer}
use Rattle.git_server.specs.declared.server.Phase.{Phase}
use Rattle.git_server.specs.declared.server.Server.{Server}

-- a session ended because the source of a pack failed
abbrev pub IsPackLost : Option Outcome → Type 0
IsPackLost o = (fault : Fault) × (o ≡ Some (Refused fault)) × (fault.kind ≡ PackSource)

-- more reads of the repository have failed than before if and only if the session ended because the source of a pack failed
pub record HasFailed (o : Option Outcome) (before now : ℕ) : Type 0 where
  pub risen : IsPackLost o → before < now
  pub same : ¬ IsPackLost o → now ≡ before

module _ {R A : Type 0} where
  -- the reader of its packets
  abbrev pub reader_of : Server R A → PacketReader
  reader_of server = server.reader

  -- the repository that the server answers from
  abbrev pub repo_of : Server R A → R
  repo_of server = server.repo

  -- the server waits for bytes
  abbrev pub wants_input : Server R A → Bool
  wants_input server = reads_in server.phase

  -- the outcome, once there is one
  abbrev pub outcome_of : Server R A → Option Outcome
  outcome_of server = outcome_in server.phase

  -- the number of bytes in argument lines: of the request that is being read, and of the one that is being answered
  abbrev pub kept_by : Server R A → ℕ
  kept_by server = kept_so_far server.requests + kept_in server.phase

  -- the number of bytes stored of their values
  abbrev pub stored_by : Server R A → ℕ
  stored_by server = stored_so_far server.requests + stored_in server.phase

  -- the number of bytes that the server has: those in the buffer of its packet reader, and those stored of both requests
  abbrev pub bytes_held : Server R A → ℕ
  bytes_held server = held_in_packet server.reader + stored_by server

  -- the same with each field named, so that no field can be added without being counted
  abbrev pub bytes_held_by_fields : Server R A → ℕ
  bytes_held_by_fields server =
      let record {
        reader = reader;
        requests = requests;
        offer = offer;
        repo = repo;
        phase = phase;
        sound = sound;
        between = between;
        gathers = gathers;
      } = server in
      held_in_packet reader + (stored_so_far requests + stored_in phase)

  -- the session goes on: the bytes were read, and the packets that are left to send were asked for or are the advertisement
  pub record Serves (s : Setting) (used given : List ℕ) (server : Server R A) : Type 0 where
    pub asked : List Asked
    pub packets : List Given
    pub left : List Given
    pub rest : List ℕ
    pub sent : List Pkt
    pub reads : Reads server.reader 0 used packets rest
    pub no_fault : fault_of server.reader ≡ None
    pub requests : AreRequests (IsRequest s) packets asked left
    pub takes : Takes left server.requests
    pub begins : Begins s left
    pub left_is : LeftIn server.phase left
    pub flush_at : FlushIsAt server.phase packets
    pub is_sent : (unsent : List Pkt) → AreUnsent server.offer s.repo server.phase unsent → IsSent s asked sent unsent
    pub breaks : (unsent : List Pkt) → MayBreak s.repo server.phase unsent → IsAnswering broken s asked sent unsent
    pub given_is : given ≡ spelled sent
    pub fit : AllFit sent

  abbrev pub StandsBy : Option Outcome → Setting → List ℕ → Bool → List ℕ → Server R A → Type 0
  StandsBy None s used over given server = (over ≡ false) × Serves s used given server
  StandsBy (Some outcome) s used over given server =
      (unsent : List Pkt) → AreUnsent server.offer s.repo server.phase unsent → IsEnding s used over given outcome unsent

  -- the server has used these bytes, with `over` if the input ended with them, and has sent those
  pub record Running (state : R → RepoState) (s : Setting) (used : List ℕ) (over : Bool) (given : List ℕ) (server : Server R A) : Type 0 where
    pub offer : server.offer ≡ s.offer
    pub reads_for : offer_of server.requests ≡ s.offer
    pub limit : limit_in server.requests ≡ s.limit
    pub repo : (state server.repo).answers ≡ s.repo
    pub failures : HasFailed (outcome_of server) s.failures (state server.repo).failures
    pub within : kept_by server ≤ s.limit
    pub covered : stored_in server.phase ≤ kept_in server.phase
    pub fits : held_in_packet server.reader ≤ 65520
    pub stands : StandsBy (outcome_of server) s used over given server

  -- nothing was used or sent yet
  pub record IsFresh (repo : R) (offer : Offer) (limit : ℕ) (phase : Phase A) (server : Server R A) : Type 0 where
    pub repo_is : server.repo ≡ repo
    pub offer_is : server.offer ≡ offer
    pub phase_is : server.phase ≡ phase
    pub reads : Reads server.reader 0 [] [] []
    pub takes : Takes [] server.requests
    pub reads_for : offer_of server.requests ≡ offer
    pub limit_is : limit_in server.requests ≡ limit
    pub kept : kept_so_far server.requests ≡ 0

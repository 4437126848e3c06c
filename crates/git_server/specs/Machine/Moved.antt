-- The states of a server in a run, and the laws that join its calls.
use Rattle.std.specs.Prelude.{◌≡◌, ℕ, Bool, true, List, [], ◌++◌, Option, Some, IsSome}
use Rattle.std.proofs.Common.{refl, sym, append_assoc, subst}
use Rattle.std.specs.Io.{StartsWith}
use Rattle.git_loop.specs.Carried.{Carries, carries_further, carries_itself}
use Rattle.git_loop.specs.Moves.{Move, ended_after, given_to, used_of}
use Rattle.git_pkt.specs.Packets.{Pkt, Spells}
use Rattle.git_pkt.specs.Machine.PacketReader.{held_of}
use Rattle.git_pkt.specs.declared.fault.Fault.{Fault}
use Rattle.git_pkt.specs.declared.fault.Kind.TheVariants.{StreamTooLong}
use Rattle.git_server.specs.Repository.{RepoState}
use Rattle.git_server.specs.Sessions.{Setting}
use Rattle.git_server.specs.Machine.Phases.{outcome_in, reads_in, turn_in}
use Rattle.git_server.specs.declared.server.Turn.TheVariants.{Finished}
use Rattle.git_server.specs.Machine.Server.{Running, outcome_of, wants_input}
use Rattle.git_server.specs.Machine.ServerCalls.{Goes}
use Rattle.git_server.specs.declared.outcome.Outcome.{Outcome}
use Rattle.git_server.specs.declared.outcome.Outcome.TheVariants.{Refused}
use Rattle.git_server.specs.declared.server.Phase.{Phase}
use Rattle.git_server.specs.declared.server.Phase.TheVariants.{Advertising, Between, Within, Answering, Refusing, Ended}
use Rattle.git_server.specs.declared.server.Server.{Server}

-- the session ended because the stream is too long
abbrev pub IsTooLong : Option Outcome → Type 0
IsTooLong o = (fault : Fault) × (o ≡ Some (Refused fault)) × (fault.kind ≡ StreamTooLong)

waits_in : {A : Type 0} (phase : Phase A) → reads_in phase ≡ true → IsSome (outcome_in phase) → ⊥
waits_in (Advertising line) waits ends = absurd (cc)
waits_in Between waits ends = absurd (cc)
waits_in Within waits ends = absurd (cc)
waits_in (Answering answer offset) waits ends = absurd (cc)
waits_in (Refusing fault) waits ends = absurd (cc)
waits_in (Ended outcome) waits ends = absurd (cc)

module _ {R A : Type 0} where
  -- everything was sent, and the session has an outcome
  abbrev pub HasFinished : Server R A → Type 0
  HasFinished server = (outcome : Outcome) × (turn_in server.phase ≡ Finished outcome)

  -- the buffer begins with a packet of these bytes
  abbrev pub LendsPacket : Server R A → List ℕ → Type 0
  LendsPacket server bytes = (packet : Pkt) × Spells packet bytes × StartsWith (held_of server.reader) bytes

  -- a server that waits for bytes has no outcome
  pub waits_open : (server : Server R A) → wants_input server ≡ true → IsSome (outcome_of server) → ⊥
  waits_open server waits ends = waits_in server.phase waits ends

  pub waits_in_time : (server : Server R A) → wants_input server ≡ true → IsTooLong (outcome_of server) → ⊥
  waits_in_time server waits (fault, is, name) = waits_open server waits (subst IsSome (sym is) refl)

  -- some bytes used and sent lead to this state
  pub record IsOfASession (state : R → RepoState) (server : Server R A) : Type 0 where
    pub s : Setting
    pub used : List ℕ
    pub over : Bool
    pub given : List ℕ
    pub running : Running state s used over given server

module _ {R A : Type 0} (state : R → RepoState) where
  pub goes_nowhere : (server : Server R A) → Goes state [] [] server server
  goes_nowhere server = carries_itself (Running state) server

  module _ (old middle new : Server R A) where
    -- one call after another
    pub goes_join : (u v g h : List ℕ) → Goes state u g old middle → Goes state v h middle new → Goes state (u ++ v) (g ++ h) old new
    goes_join u v g h first second s so_far over before r =
        let two = second s (so_far ++ u) over (before ++ g) (first s so_far over before r) in
        subst (λ (l : List ℕ). Running state s l over (before ++ (g ++ h)) new) (append_assoc so_far u v)
        (subst (λ (l : List ℕ). Running state s ((so_far ++ u) ++ v) over l new) (append_assoc before g h) two)

  -- the relation that held before these moves holds after them, with what they used and sent
  abbrev pub ServerReaches : Server R A → List Move → Server R A → Type 0
  ServerReaches old trace new = Carries (Running state) old trace new

  pub reaches_further : (old middle new : Server R A) (t u : List Move) → ServerReaches old t middle → ServerReaches middle u new
      → ServerReaches old (t ++ u) new
  reaches_further old middle new t u first second = carries_further (Running state) old middle new t u first second

  pub keeps_session : (old new : Server R A) (trace : List Move) → ServerReaches old trace new → IsOfASession state old → IsOfASession state new
  keeps_session old new trace reaches h = record {
    s = h.s;
    used = h.used ++ used_of 0 trace;
    over = ended_after 0 h.over trace;
    given = h.given ++ given_to 0 trace;
    running = reaches h.s h.used h.over h.given h.running;
  }

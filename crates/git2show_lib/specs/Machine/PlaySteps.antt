-- What the steps of a play do to the client, to the server that it receives from, and to what was sent between them.
use Rattle.std.specs.Prelude.{◌≡◌, ◌≢◌, ◌⊎◌, ℕ, Bool, true, false, List, [], ◌++◌, Option, Some, None, Result, Ok, Err}
use Rattle.git_pkt.specs.Streams.{Flow, flow, IsTimely}
use Rattle.git_pkt.specs.declared.fault.Fault.{Fault}
use Rattle.git_pkt.specs.declared.fault.Kind.TheVariants.{StreamTooLong, Truncated}
use Rattle.git_pkt.specs.declared.fault.RunFault.{RunFault}
use Rattle.git_pkt.specs.declared.fault.RunFault.TheVariants.{WriteFault, Refused as RefusedRun}
use Rattle.git_msg.specs.declared.requests.Request.{Request}
use Rattle.git_client.specs.Machine.Client.{ReceivesOn, can_ask, fault_of, wants_input}
use Rattle.git_client.specs.Machine.RunSteps.{ReceivesBytes, AsksNext, AsksNot, SendsPackets, no_counts}
use Rattle.git_client.specs.declared.client.Client.{Client}
use Rattle.git_client.specs.declared.receiving.Counts.{Counts}
use Rattle.git_server.specs.Repository.{RepoState}
use Rattle.git_server.specs.Machine.Server.{Running, outcome_of, wants_input as waits_for_input}
use Rattle.git_server.specs.Machine.ServerCalls.{EndsAs as EndsServer}
use Rattle.git_server.specs.Sessions.{Setting}
use Rattle.git_server.specs.declared.outcome.Outcome.{Outcome}
use Rattle.git_server.specs.declared.outcome.Outcome.TheVariants.{Refused}
use Rattle.git_server.specs.declared.server.Server.{Server}

-- where what is sent to a server goes, and the progress that it reports: to no stream
abbrev pub silent : Flow
silent = flow None None

-- nothing more of a message comes: all of it was received, a flush failed, or the client was closed here
abbrev pub EndsMessageTo : {A : Type 0} → Result (Unit {0}) RunFault → Client A → Client A → Type 0
EndsMessageTo (Ok done) old new = (new ≡ old) × (wants_input old ≡ false)
EndsMessageTo (Err WriteFault) old new = new ≡ old
EndsMessageTo (Err (RefusedRun fault)) old new =
    (wants_input old ≡ true) × ReceivesOn old [] [] new × (fault_of new ≡ Some fault) × (fault.kind ≡ Truncated)
EndsMessageTo (Err fault) old new = ⊥

module _ {R A : Type 0} (state : R → RepoState) where
  -- what holds of a server, of what was sent to it, of the front that it used, and of what it sent; it throws bytes away only where it waits for none
  pub record Stands (s : Setting) (content given : List ℕ) (server : Server R A) : Type 0 where
    pub used : List ℕ
    pub unused : List ℕ
    pub parts : content ≡ used ++ unused
    pub runs : Running state s used false given server
    pub keeps : waits_for_input server ≡ true → unused ≡ []
    pub in_time : (fault : Fault) → outcome_of server ≡ Some (Refused fault) → fault.kind ≡ StreamTooLong → unused ≢ []

  -- if that held before, it holds with these bytes sent and given too
  abbrev pub StandsOn : Server R A → List ℕ → List ℕ → Server R A → Type 0
  StandsOn old content given new =
      (s : Setting) (stated_before given_before : List ℕ) → Stands s stated_before given_before old
      → Stands s (stated_before ++ content) (given_before ++ given) new

  -- what holds of a server after whole requests were sent: it used all of them, or its session ended after a front
  pub record Settled (s : Setting) (content given : List ℕ) (server : Server R A) : Type 0 where
    pub used : List ℕ
    pub unused : List ℕ
    pub parts : content ≡ used ++ unused
    pub runs : Running state s used false given server
    pub settled : outcome_of server ≡ None → unused ≡ []
    pub in_time : (fault : Fault) → outcome_of server ≡ Some (Refused fault) → fault.kind ≡ StreamTooLong → unused ≢ []

  -- if that held before, it holds with these bytes given too
  abbrev pub GivesOn : Server R A → List ℕ → Server R A → Type 0
  GivesOn old given new =
      (s : Setting) (content given_before : List ℕ) → Settled s content given_before old → Settled s content (given_before ++ given) new

  -- a server gives nothing more: it waits, or its session ended
  abbrev pub IsSpent : Server R A → Type 0
  IsSpent server = (waits_for_input server ≡ true) ⊎ ((outcome : Outcome) × (outcome_of server ≡ Some outcome) × EndsServer state server outcome)

  -- a server sent these bytes, and the client received a front of them
  pub record ReceivesFront (broken : Bool) (old new : Client A) (counts counts_after : Counts) (server after : Server R A) (end unheard : List ℕ)
      (out packs : Flow) : Type 0 where
    pub given : List ℕ
    pub used : List ℕ
    pub parts : given ++ end ≡ used ++ unheard
    pub arrived : ReceivesBytes broken old new counts counts_after used out packs silent
    pub server_goes : GivesOn server given after

  -- the client received what the server gave, up to where it can ask, or the server gives nothing more
  pub record ReceivesOut (old new : Client A) (counts counts_after : Counts) (server after : Server R A) (out packs : Flow) : Type 0 where
    pub unheard : List ℕ
    pub arrives : ReceivesFront false old new counts counts_after server after [] unheard out packs
    pub expected : wants_input new ≡ true → (unheard ≡ []) × IsSpent after
    pub asks : wants_input new ≡ false → can_ask new ≡ true

  -- a fault was met
  pub record ReceivesUntilFault (fault : Fault) (ended : Bool) (old new : Client A) (counts counts_after : Counts) (server after : Server R A)
      (end unheard : List ℕ) (out packs : Flow) : Type 0 where
    pub arrives : ReceivesFront false old new counts counts_after server after end unheard out packs
    pub announced : fault_of new ≡ Some fault
    pub timely : IsTimely fault.kind ended unheard
    pub done : ended ≡ true → (unheard ≡ []) × IsSpent after

  -- what was met before all was received: a failing write, or a fault
  abbrev pub StopsAt : RunFault → Bool → Client A → Client A → Counts → Counts → Server R A → Server R A → List ℕ → Flow → Flow → Type 0
  StopsAt WriteFault ended old new counts counts_after server after end out packs =
      (unheard : List ℕ) × ReceivesFront true old new counts counts_after server after end unheard out packs
  StopsAt (RefusedRun fault) ended old new counts counts_after server after end out packs =
      (unheard : List ℕ) × ReceivesUntilFault fault ended old new counts counts_after server after end unheard out packs
  StopsAt fault ended old new counts counts_after server after end out packs = ⊥

  -- how the bytes of a server were received
  abbrev pub ReceivesServerTo : Result (Unit {0}) RunFault → Client A → Client A → Counts → Counts → Server R A → Server R A → Flow → Flow → Type 0
  ReceivesServerTo (Ok done) old new counts counts_after server after out packs = ReceivesOut old new counts counts_after server after out packs
  ReceivesServerTo (Err fault) old new counts counts_after server after out packs =
      StopsAt fault false old new counts counts_after server after [] out packs

  -- a message was received whole, and what comes after it
  pub record ReceivesMessage (end : List ℕ) (old new : Client A) (server after : Server R A) (out packs : Flow) : Type 0 where
    pub counts : Counts
    pub unheard : List ℕ
    pub arrives : ReceivesFront false old new no_counts counts server after end unheard out packs
    pub asks : can_ask new ≡ true

  -- how it was received
  abbrev pub ReceivesMessageTo : Result (Unit {0}) RunFault → List ℕ → Client A → Client A → Server R A → Server R A → Flow → Flow → Type 0
  ReceivesMessageTo (Ok done) end old new server after out packs = ReceivesMessage end old new server after out packs
  ReceivesMessageTo (Err fault) end old new server after out packs =
      (ended : Bool) × (counts : Counts) × StopsAt fault ended old new no_counts counts server after end out packs

  -- all that a client has to send was sent to the server
  pub record AnnouncesAll (old new : Client A) (server after : Server R A) : Type 0 where
    pub conveys : SendsPackets false old new silent
    pub server_goes : StandsOn server conveys.given [] after

  -- a request was asked, and sent to the server
  pub record AsksServer (old new : Client A) (request : Request A) (server after : Server R A) (out : Flow) : Type 0 where
    pub asks : AsksNext false old new request silent out
    pub waits : wants_input new ≡ true
    pub server_goes : StandsOn server asks.given [] after

  -- how it was asked
  abbrev pub AsksServerTo : Result (Unit {0}) RunFault → Client A → Client A → Request A → Server R A → Server R A → Flow → Type 0
  AsksServerTo (Ok done) old new request server after out = AsksServer old new request server after out
  AsksServerTo (Err WriteFault) old new request server after out = AsksNext true old new request silent out
  AsksServerTo (Err (RefusedRun fault)) old new request server after out = AsksNot fault old new request silent out × (after ≡ server)
  AsksServerTo (Err fault) old new request server after out = ⊥

  -- a request was asked, and the response to it was received so
  pub record Answers (result : Result (Unit {0}) RunFault) (end : List ℕ) (old new : Client A) (request : Request A) (server after : Server R A)
      (out packs : Flow) : Type 0 where
    pub asking : Client A
    pub announced : Server R A
    pub written : Option (List ℕ)
    pub asks : AsksServer old asking request server announced (flow out.before written)
    pub arrives : ReceivesMessageTo result end asking new announced after (flow written out.after) packs

  -- how it was answered, if it was asked at all
  abbrev pub AnswersTo : Result (Unit {0}) RunFault → List ℕ → Client A → Client A → Request A → Server R A → Server R A → Flow → Flow → Type 0
  AnswersTo (Ok done) end old new request server after out packs = Answers (Ok done) end old new request server after out packs
  AnswersTo (Err fault) end old new request server after out packs =
      Answers (Err fault) end old new request server after out packs
      ⊎ (AsksServerTo (Err fault) old new request server after out × (packs.after ≡ packs.before))

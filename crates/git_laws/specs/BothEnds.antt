-- Calls of a server and of a client in any order, over two queues of bytes, and what one of them can do next.
use Rattle.std.specs.Prelude.{◌≡◌, ◌≢◌, ◌⊎◌, ℕ, true, false, All, List, [], ◌∷◌, ◌++◌, Some, take}
use Rattle.git_names.specs.declared.object_format.Format.{Format}
use Rattle.git_pkt.specs.declared.fault.Fault.{Fault}
use Rattle.git_msg.specs.Asked.{HasValues}
use Rattle.git_client.specs.Machine.Calls.{Call as ClientCall, pull, feed, Makes as MakesClient, history_after}
use Rattle.git_client.specs.Machine.Client.{Converses, History, Pulls as PullsClient, can_ask, given_by, nothing_yet, wants_input as waits_for_input}
use Rattle.git_client.specs.Parts.{Terms, terms_of}
use Rattle.git_client.specs.declared.client.Client.{Client}
use Rattle.git_client.specs.declared.events.Ending.TheVariants.{FlushOnly}
use Rattle.git_client.specs.declared.events.Sent.{Sent}
use Rattle.git_client.specs.declared.events.Sent.TheVariants.{Packet as SentPacket}
use Rattle.git_server.specs.Machine.Calls.{Call as ServerCall, Makes, given_with, used_by}
use Rattle.git_server.specs.Machine.Server.{Running, outcome_of, wants_input}
use Rattle.git_server.specs.Machine.ServerCalls.{Pulls}
use Rattle.git_server.specs.Repository.{IsSound, RepoState}
use Rattle.git_server.specs.declared.outcome.Outcome.TheVariants.{Refused}
use Rattle.git_server.specs.declared.server.Pulled.{Pulled}
use Rattle.git_server.specs.declared.server.Pulled.TheVariants.{Packet}
use Rattle.git_server.specs.declared.server.Server.{Server}
use Rattle.git_laws.specs.Plays.{setting_of}
use Rattle.git_laws.specs.AnnouncedAnswers.{CanBeWritten}

-- a call of either side
pub data EitherCall (A : Type 0) : Type 0 where
  of_server : ServerCall → EitherCall A
  of_client : ClientCall A → EitherCall A

-- both sides, and the bytes between them: those that one has sent and the other has not used
pub record BothEnds (R A : Type 0) : Type 0 where
  pub server : Server R A
  pub client : Client A
  pub to_server : List ℕ
  pub to_client : List ℕ

-- each response ends with its flush: one server answers all requests
abbrev pub terms_with : Format → Terms
terms_with format = terms_of format FlushOnly

module _ {A : Type 0} where
  -- the bytes that a call of the client used
  abbrev pub taken_by : ClientCall A → List ℕ
  taken_by (feed chunk answer) = take answer.used chunk
  taken_by call = []

  -- the bytes that the call sent
  abbrev pub sent_by : ClientCall A → List ℕ
  sent_by (pull sent) = given_by sent
  sent_by call = []

  -- the calls of the client, in their order
  abbrev pub calls_of_client : List (EitherCall A) → List (ClientCall A)
  calls_of_client [] = []
  calls_of_client (of_server call ∷ calls) = calls_of_client calls
  calls_of_client (of_client call ∷ calls) = call ∷ calls_of_client calls

  -- the requests that the client was asked to send, and the bytes and events that it used, returned and sent
  abbrev pub history_of : List (EitherCall A) → History
  history_of calls = history_after nothing_yet (calls_of_client calls)

-- the result of `pull` is a packet
abbrev pub IsSentPacket : Sent → Type 0
IsSentPacket (SentPacket bytes) = Unit {0}
IsSentPacket sent = ⊥

abbrev pub IsPulledPacket : Pulled → Type 0
IsPulledPacket (Packet bytes) = Unit {0}
IsPulledPacket pulled = ⊥

-- a client has a packet to send: whatever a call of `pull` returns is one
abbrev pub ClientGives : {A : Type 0} → Client A → Type 0
ClientGives {A} client = (sent : Sent) (new : Client A) → PullsClient client sent new → IsSentPacket sent

-- a server ended its session by refusing something
abbrev pub HasRefused : {R A : Type 0} → Server R A → Type 0
HasRefused server = (fault : Fault) × (outcome_of server ≡ Some (Refused fault))

module _ {R A : Type 0} (state : R → RepoState) where
  -- a server has a packet to send, in the same sense
  abbrev pub ServerGives : Server R A → Type 0
  ServerGives server = (pulled : Pulled) (new : Server R A) → Pulls state server pulled new → IsPulledPacket pulled

  -- a call of the client: the bytes that it used were the first on their way to the client, and those that it sent are the last on their
  -- way to the server
  pub record MovesClient (call : ClientCall A) (old new : BothEnds R A) : Type 0 where
    pub before : ℕ
    pub after : ℕ
    pub makes : MakesClient call before old.client after new.client
    pub used : old.to_client ≡ taken_by call ++ new.to_client
    pub gave : new.to_server ≡ old.to_server ++ sent_by call
    pub same : new.server ≡ old.server

  -- one side waits for bytes and has some to use
  abbrev pub HasBytes : BothEnds R A → Type 0
  HasBytes now =
      ((wants_input now.server ≡ true) × (now.to_server ≢ [])) ⊎ ((waits_for_input now.client ≡ true) × (now.to_client ≢ []))

  -- neither waits for the other: the client can ask, one side has a packet to send, or one has bytes to use
  abbrev pub CanGoOn : BothEnds R A → Type 0
  CanGoOn now =
      (can_ask now.client ≡ true) ⊎ (ClientGives now.client ⊎ (ServerGives now.server ⊎ HasBytes now))

module _ {R A : Type 0} (state : R → RepoState) (refuses : ℕ → Type 0) where
  -- a call of the server: the bytes that it used were the first on their way to the server, and those that it sent are the last on their
  -- way to the client
  pub record MovesServer (call : ServerCall) (old new : BothEnds R A) : Type 0 where
    pub before : ℕ
    pub after : ℕ
    pub makes : Makes state refuses call before old.server after new.server
    pub used : old.to_server ≡ used_by call ++ new.to_server
    pub gave : new.to_client ≡ old.to_client ++ given_with call
    pub same : new.client ≡ old.client

  abbrev pub Moves : EitherCall A → BothEnds R A → BothEnds R A → Type 0
  Moves (of_server call) old new = MovesServer call old new
  Moves (of_client call) old new = MovesClient state call old new

  -- the calls were made one after the other
  abbrev pub MoveAll : List (EitherCall A) → BothEnds R A → BothEnds R A → Type 0
  MoveAll [] old new = new ≡ old
  MoveAll (call ∷ calls) old new = (between : BothEnds R A) × Moves call old between × MoveAll calls between new

  -- before the calls both sides were new: a client of the format, and a server of this repository that advertises first, and advertises
  -- everything. The repository's answers can be written, and the values of each request are allowed in a request of the format.
  pub record HaveMet (format : Format) (limit : ℕ) (before : RepoState) (calls : List (EitherCall A)) (now : BothEnds R A) : Type 0 where
    pub first : BothEnds R A
    pub new_server : Running state (setting_of (terms_with format) limit before true) [] false [] first.server
    pub new_client : Converses (terms_with format) nothing_yet first.client
    pub none_to_server : first.to_server ≡ []
    pub none_to_client : first.to_client ≡ []
    pub moved : MoveAll calls first now
    pub sound : IsSound before.answers
    pub written : CanBeWritten before.answers
    pub same_format : before.answers.format ≡ format
    pub values : All (HasValues format) (history_of calls).asked

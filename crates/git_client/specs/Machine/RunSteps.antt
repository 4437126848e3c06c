-- The steps of a run: a client receives the next response, and sends the next request.
use Rattle.std.specs.Prelude.{◌≡◌, ◌⊎◌, ℕ, ◌+◌, ◌-◌, ◌≤◌, ◌<◌, Bool, true, false, List, [], ◌∷◌, ◌++◌, length, take, drop, Some, None, Result, Ok, Err}
use Rattle.std.specs.Io.KnownBytes.{Appends, Consumes}
use Rattle.git_pkt.specs.Packets.{Pkt, spelling_of}
use Rattle.git_pkt.specs.Streams.{Flow, WrittenAs, IsTimely}
use Rattle.git_pkt.specs.Machine.PacketReader.{ShownByFeed}
use Rattle.git_pkt.specs.declared.fault.Fault.{Fault}
use Rattle.git_pkt.specs.declared.fault.RunFault.{RunFault}
use Rattle.git_pkt.specs.declared.fault.RunFault.TheVariants.{ReadFault, WriteFault, ReadLimit, Refused}
use Rattle.git_msg.specs.Asked.{command_asked}
use Rattle.git_msg.specs.Checks.{Passes, Refuses as RefusesBy}
use Rattle.git_msg.specs.Machine.HeldRequest.{asked_of}
use Rattle.git_msg.specs.declared.requests.Request.{Request}
use Rattle.git_client.specs.Parts.{Terms}
use Rattle.git_client.specs.Events.{EventValue, offered, ended as response_ended, pack_bytes, progress_bytes}
use Rattle.git_client.specs.Transcript.{transcript_from, asked_line}
use Rattle.git_client.specs.Machine.Client.{History, Converses, ReceivesOn, SendsOn, ask_checks, bytes_used, can_ask, caps_of, fault_of, format_of}
use Rattle.git_client.specs.Machine.Client.{has_left, left_to_send, wants_input}
use Rattle.git_client.specs.declared.client.Client.{Client}
use Rattle.git_client.specs.declared.receiving.Counts.{Counts}

abbrev pub no_counts : Counts
no_counts = record { pack = 0; progress = 0 }

-- the counts after these events of a response
abbrev pub counts_with : Counts → List EventValue → Counts
counts_with counts events = record {
  pack = counts.pack + length (pack_bytes events);
  progress = counts.progress + length (progress_bytes events);
}

-- the counts do not overflow with these events
pub record CanCount (counts : Counts) (events : List EventValue) : Type 0 where
  pub pack : counts.pack + length (pack_bytes events) ≤ 18446744073709551615
  pub progress : counts.progress + length (progress_bytes events) ≤ 18446744073709551615

-- all events are of one response, or of the advertisement: the end of it is the last event, and only after it the client can ask
abbrev pub IsOneTurn : List EventValue → Bool → Type 0
IsOneTurn [] asks = asks ≡ false
IsOneTurn (offered ∷ events) asks = (events ≡ []) × (asks ≡ true)
IsOneTurn (response_ended ∷ events) asks = (events ≡ []) × (asks ≡ true)
IsOneTurn (event ∷ events) asks = IsOneTurn events asks

-- all packets before the last were written whole, and of the last a prefix
pub record BreaksOff (stream : Flow) (given : List ℕ) : Type 0 where
  pub whole : List ℕ
  pub front : List ℕ
  pub rest : List ℕ
  pub parts : given ≡ whole ++ (front ++ rest)
  pub written : Appends stream.before stream.after (whole ++ front)
  pub one_packet : (front ++ rest ≡ []) ⊎ ((packet : Pkt) × (front ++ rest ≡ spelling_of packet))

module _ {A : Type 0} where
  -- These bytes were received, and the client has nothing to send: the transcript lines for them were written, with the counts of the
  -- response so far, and their bytes of the pack and of the progress
  pub record ReceivesBytes (broken : Bool) (old new : Client A) (counts counts_after : Counts) (used : List ℕ) (out packs progress : Flow) : Type 0 where
    pub events : List EventValue
    pub arrives : ReceivesOn old used events new
    pub one_turn : IsOneTurn events (can_ask new)
    pub has_unsent : left_to_send new ≡ []
    pub counted : CanCount counts events → counts_after ≡ counts_with counts events
    pub announced : CanCount counts events → WrittenAs broken out (transcript_from [] counts.pack counts.progress events)
    pub sent : WrittenAs broken packs (pack_bytes events)
    pub reported : WrittenAs broken progress (progress_bytes events)

  -- all of the chunk was used, or the client can ask
  pub record ReceivesInChunk (old new : Client A) (counts counts_after : Counts) (chunk : List ℕ) (used : ℕ) (out packs progress : Flow) : Type 0 where
    pub arrives : ReceivesBytes false old new counts counts_after (take used chunk) out packs progress
    pub within : used ≤ length chunk
    pub all : wants_input new ≡ true → used ≡ length chunk
    pub sound : fault_of new ≡ None
    pub whole : wants_input new ≡ false → can_ask new ≡ true
    pub moves : 0 < length chunk → 0 < used

  -- there was an error in the chunk
  pub record ReceivesToFault (fault : Fault) (old new : Client A) (counts counts_after : Counts) (chunk : List ℕ) (out packs progress : Flow) : Type 0 where
    pub used : ℕ
    pub arrives : ReceivesBytes false old new counts counts_after (take used chunk) out packs progress
    pub announced : fault_of new ≡ Some fault
    pub shown : ShownByFeed fault used chunk

  -- a write or a flush failed; if the client has an error, the chunk shows it
  pub record ReceivesChunkBroken (old new : Client A) (counts counts_after : Counts) (chunk : List ℕ) (out packs progress : Flow) : Type 0 where
    pub used : ℕ
    pub arrives : ReceivesBytes true old new counts counts_after (take used chunk) out packs progress
    pub shown : (fault : Fault) → fault_of new ≡ Some fault → ShownByFeed fault used chunk

  -- how a chunk was received
  abbrev pub ReceivesChunkTo : Result ℕ RunFault → Client A → Client A → Counts → Counts → List ℕ → Flow → Flow → Flow → Type 0
  ReceivesChunkTo (Ok used) old new counts counts_after chunk out packs progress = ReceivesInChunk old new counts counts_after chunk used out packs progress
  ReceivesChunkTo (Err WriteFault) old new counts counts_after chunk out packs progress =
      ReceivesChunkBroken old new counts counts_after chunk out packs progress
  ReceivesChunkTo (Err (Refused fault)) old new counts counts_after chunk out packs progress =
      ReceivesToFault fault old new counts counts_after chunk out packs progress
  ReceivesChunkTo (Err fault) old new counts counts_after chunk out packs progress = ⊥

  -- an error of the client is that of truncation only if the input has ended, and that of a stream too long only if one more byte was read
  abbrev pub FaultsInTime : Client A → Bool → List ℕ → Type 0
  FaultsInTime client ended unused = (fault : Fault) → fault_of client ≡ Some fault → IsTimely fault.kind ended unused

  -- a prefix of the waiting and the newly read bytes was received
  pub record ReceivesFrom (broken : Bool) (old new : Client A) (waiting unused : List ℕ) (reader out packs progress : Flow) : Type 0 where
    pub came : List ℕ
    pub used : List ℕ
    pub counts : Counts
    pub read : Consumes reader.before reader.after came
    pub parts : waiting ++ came ≡ used ++ unused
    pub bytes : ReceivesBytes broken old new no_counts counts used out packs progress

  -- there was an error
  pub record ReceivesUntilFault (fault : Fault) (ended : Bool) (old new : Client A) (waiting : List ℕ) (reader out packs progress : Flow) : Type 0 where
    pub unused : List ℕ
    pub arrives : ReceivesFrom false old new waiting unused reader out packs progress
    pub announced : fault_of new ≡ Some fault
    pub timely : IsTimely fault.kind ended unused

  -- packets that had to be sent were taken and written; all of them, unless a write failed, and then no more were taken after that
  pub record SendsPackets (broken : Bool) (old new : Client A) (writer : Flow) : Type 0 where
    pub given : List ℕ
    pub written : WrittenAs broken writer given
    pub last : broken ≡ true → BreaksOff writer given
    pub conveys : SendsOn old given new
    pub all : broken ≡ false → left_to_send new ≡ []
    pub same_leaving : has_left new ≡ has_left old
    pub sound : fault_of new ≡ None
    pub not_ready : can_ask new ≡ false

  -- the request may be asked and was, with its line in the transcript; even if a write failed the client has no error, and can ask
  -- no other request
  pub record AsksNext (broken : Bool) (old new : Client A) (request : Request A) (writer out : Flow) : Type 0 where
    pub passes : Passes (ask_checks (format_of old) (caps_of old) request)
    pub given : List ℕ
    pub content : WrittenAs broken writer given
    pub announced : WrittenAs broken out (asked_line (command_asked (asked_of request)))
    pub last : broken ≡ true → BreaksOff writer given
    pub sound : fault_of new ≡ None
    pub not_ready : can_ask new ≡ false
    pub goes : (t : Terms) (h : History) → Converses t h old
        → Converses t (record h { asked = h.asked ++ asked_of request ∷ []; given = h.given ++ given }) new

  -- the request was refused, and nothing changed
  pub record AsksNot (fault : Fault) (old new : Client A) (request : Request A) (writer out : Flow) : Type 0 where
    pub refused : RefusesBy (ask_checks (format_of old) (caps_of old) request) fault.kind
    pub at : fault.offset ≡ bytes_used old
    pub stays : new ≡ old
    pub content : WrittenAs false writer []
    pub announced : WrittenAs false out []

  -- how a request was asked
  abbrev pub AsksTo : Result (Unit {0}) RunFault → Client A → Client A → Request A → Flow → Flow → Type 0
  AsksTo (Ok done) old new request writer out = AsksNext false old new request writer out × (wants_input new ≡ true)
  AsksTo (Err WriteFault) old new request writer out = AsksNext true old new request writer out
  AsksTo (Err (Refused fault)) old new request writer out = AsksNot fault old new request writer out
  AsksTo (Err fault) old new request writer out = ⊥

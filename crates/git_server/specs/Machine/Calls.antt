-- Calls of a server, one after the other, and the promises after any of them.
use Rattle.std.specs.Prelude.{◌≡◌, ◌≢◌, ◌↔◌, ℕ, ◌+◌, ◌*◌, ◌≤◌, Bool, true, false, List, [], ◌∷◌, length, take, flat_map, sum_by, Some, None}
use Rattle.git_pkt.specs.Machine.Credit.{Pays, credit_of}
use Rattle.git_pkt.specs.Packets.{Pkt}
use Rattle.git_pkt.specs.Machine.PacketReader.{bytes_held as held_in_packet}
use Rattle.git_pkt.specs.declared.fault.Fault.{Fault}
use Rattle.git_pkt.specs.declared.fault.Kind.TheVariants.{StreamTooLong}
use Rattle.git_server.specs.Repository.{RepoState}
use Rattle.git_server.specs.Sessions.{FirstMalformed, GoesOn, IsAnswered, IsEnding, IsOfTheBytes, IsRunning, IsSession, Setting}
use Rattle.git_server.specs.Machine.Server.{bytes_held, kept_by, outcome_of, reader_of, stored_by, wants_input}
use Rattle.git_server.specs.Machine.ServerCalls.{Closes, EndsByRefusal, Goes, KeepsToMemory, AreUnsentNow, Pulls, given_by}
use Rattle.git_server.specs.declared.outcome.Outcome.{Outcome}
use Rattle.git_server.specs.declared.outcome.Outcome.TheVariants.{Refused}
use Rattle.git_server.specs.declared.server.Pulled.{Pulled}
use Rattle.git_server.specs.declared.server.Server.{Server}

-- a call that may change a server: `feed` of a chunk with the number of bytes used, `pull` with its result, or `close`
pub data Call : Type 0 where
  feed : List ℕ → ℕ → Call
  pull : Pulled → Call
  close : Call

-- the bytes that the call used
abbrev pub used_by : Call → List ℕ
used_by (feed chunk used) = take used chunk
used_by (pull answer) = []
used_by close = []

-- the bytes that the call returned to send
abbrev pub given_with : Call → List ℕ
given_with (feed chunk used) = []
given_with (pull answer) = given_by answer
given_with close = []

-- 1 for a call of `feed`
abbrev pub feeds_by : Call → ℕ
feeds_by (feed chunk used) = 1
feeds_by (pull answer) = 0
feeds_by close = 0

-- all bytes that the calls used, joined
abbrev pub used_in : List Call → List ℕ
used_in = flat_map used_by

-- all bytes that the calls returned to send, joined
abbrev pub given_in : List Call → List ℕ
given_in = flat_map given_with

-- the number of calls of `feed` among them
abbrev pub feeds_in : List Call → ℕ
feeds_in = sum_by feeds_by

-- whether one of them is `close`: the input ended with the bytes used
abbrev pub closes : List Call → Bool
closes [] = false
closes (close ∷ calls) = true
closes (call ∷ calls) = closes calls

module _ {R A : Type 0} (state : R → RepoState) (refuses : ℕ → Type 0) where
  -- the guarantees of `feed` for this chunk and the number of bytes used: the counter of steps rose from `before` to `after`
  pub record Feeds (chunk : List ℕ) (used before : ℕ) (old : Server R A) (after : ℕ) (new : Server R A) : Type 0 where
    pub within : used ≤ length chunk
    pub goes : Goes state (take used chunk) [] old new
    pub pays : Pays used before after (credit_of (reader_of old)) (credit_of (reader_of new))
    pub memory : KeepsToMemory state refuses old new

  -- the conditions and guarantees of `close`
  pub record Ends (old new : Server R A) : Type 0 where
    pub waits : wants_input old ≡ true
    pub closes : Closes state old new
    pub credit : credit_of (reader_of new) ≤ credit_of (reader_of old)

  -- the contract of the call as a relation between the counter and the server before the call and after it
  abbrev pub Makes : Call → ℕ → Server R A → ℕ → Server R A → Type 0
  Makes (feed chunk used) before old after new = Feeds chunk used before old after new
  Makes (pull answer) before old after new = Pulls state old answer new × (after ≡ before)
  Makes close before old after new = Ends old new × (after ≡ before)

  -- the promises about a server that was new before these calls, which raised the counter from `before` to `after`
  pub record Headline (s : Setting) (calls : List Call) (before after : ℕ) (server : Server R A) : Type 0 where
    -- its only buffer, that of its packet reader, has no more bytes than the longest packet
    pub hold : held_in_packet (reader_of server) ≤ 65520
    -- it stores no more bytes of argument lines than the lines have, and these have no more than the limit
    pub stored : stored_by server ≤ kept_by server
    pub kept : kept_by server ≤ s.limit
    -- all its bytes together are no more than the longest packet and the limit together
    pub held : bytes_held server ≤ 65520 + s.limit
    -- the calls took no more than 64 steps for each byte used and for each call of `feed`, and none set the counter back
    pub rises : before ≤ after
    pub steps : after ≤ before + 64 * (length (used_in calls) + feeds_in calls)
    -- the bytes sent are those that a session sends for the bytes used, as far as it has come
    pub running : IsRunning s (used_in calls) (closes calls) (given_in calls)
    -- without an outcome the session goes on: the input has not ended, nothing is refused and the client has not left
    pub goes_on : outcome_of server ≡ None → (closes calls ≡ false) × GoesOn s (used_in calls) (given_in calls)
    -- it waits for input if and only if the session goes on, and the whole advertisement and the whole answer to each whole request were sent
    pub waits : (wants_input server ≡ true) ↔ ((outcome_of server ≡ None) × IsAnswered s (used_in calls) (given_in calls))
    -- with one it ended so
    pub ends : (outcome : Outcome) → outcome_of server ≡ Some outcome
        → (unsent : List Pkt) × IsEnding s (used_in calls) (closes calls) (given_in calls) outcome unsent
    -- if it has ended, and nothing is left to send, that is all of it
    pub session : (outcome : Outcome) → outcome_of server ≡ Some outcome → AreUnsentNow state server []
        → IsSession s (used_in calls) (closes calls) (given_in calls) outcome
    -- a refused packet is the first malformed one, at its offset and by its name, unless memory ran out or the source of a pack failed
    pub refused : (fault : Fault) → outcome_of server ≡ Some (Refused fault) → IsOfTheBytes (Refused fault)
        → FirstMalformed s (used_in calls) (closes calls) fault
    -- and if there is one the session ends so
    pub malformed : (fault : Fault) (outcome : Outcome) → FirstMalformed s (used_in calls) (closes calls) fault
        → outcome_of server ≡ Some outcome → IsOfTheBytes outcome → outcome ≡ Refused fault
    -- it ends for lack of memory only if memory for a list was refused that would have had no more bytes than the limit
    pub memory : EndsByRefusal refuses s.limit server
    -- a session that goes on has none; that the stream is too long shows only with the byte after the last allowed one
    pub clean : (fault : Fault) → outcome_of server ≡ None → fault.kind ≢ StreamTooLong → ¬ FirstMalformed s (used_in calls) (closes calls) fault

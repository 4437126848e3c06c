-- The effect of each call on the bytes that a server used and sent.
use Rattle.std.specs.Prelude.{◌≡◌, ◌⊎◌, ℕ, ◌<◌, ◌≤◌, Bool, true, List, [], ◌∷◌, ◌++◌, length, Option, Some, None}
use Rattle.std.specs.Io.{StartsWith}
use Rattle.git_pkt.specs.Machine.Credit.{credit_of}
use Rattle.git_pkt.specs.Packets.{Pkt, body_of, longest_payload, spelling_of}
use Rattle.git_pkt.specs.Splits.{Given}
use Rattle.git_pkt.specs.Machine.PacketReader.{ReadsOn, held_of}
use Rattle.git_msg.specs.Memory.{FaultNeedsRefusal}
use Rattle.git_server.specs.Machine.FullParts.{FillsPhase}
use Rattle.git_server.specs.Machine.LatePacks.{HasNoPackUnsentIn, setting_with, state_with}
use Rattle.git_server.specs.Repository.{RepoState}
use Rattle.git_server.specs.Sessions.{Setting, IsSession}
use Rattle.git_server.specs.Machine.Phases.{MayBreak, AreUnsent, most_unsent, refusal_in}
use Rattle.git_server.specs.Machine.Server.{IsPackLost, Running, outcome_of, wants_input}
use Rattle.git_pkt.specs.declared.fault.Fault.{Fault}
use Rattle.git_pkt.specs.declared.fault.Kind.TheVariants.{StreamTooLong, Truncated}
use Rattle.git_server.specs.declared.outcome.Outcome.{Outcome}
use Rattle.git_server.specs.declared.outcome.Outcome.TheVariants.{Closed, Refused}
use Rattle.git_server.specs.declared.server.Server.{Server}
use Rattle.git_server.specs.declared.server.Pulled.{Pulled}
use Rattle.git_server.specs.declared.server.Pulled.TheVariants.{Packet, NeedInput, Finished}
use Rattle.git_msg.specs.Arguments.{Arg}

-- the outcome of a server whose input ended: it was closed between two requests, or cut short inside one
abbrev pub IsClosing : Option Outcome → Type 0
IsClosing o = (o ≡ Some Closed) ⊎ ((fault : Fault) × (o ≡ Some (Refused fault)) × (fault.kind ≡ Truncated))

-- the effect of a pull on the outcome: an outcome stays, and a pull brings a new one only if the source of a pack
-- failed
abbrev pub IsAfterPull : Option Outcome → Option Outcome → Type 0
IsAfterPull (Some outcome) now = now ≡ Some outcome
IsAfterPull None now = (now ≡ None) ⊎ IsPackLost now

-- the bytes of a pulled result
abbrev pub given_by : Pulled → List ℕ
given_by (Packet bytes) = bytes.now
given_by NeedInput = []
given_by (Finished outcome) = []

-- the pulled result is this packet
abbrev pub IsPulled : Pulled → Pkt → Type 0
IsPulled pulled packet = given_by pulled ≡ spelling_of packet

module _ {R A : Type 0} where
  -- the session did not end for lack of memory, unless memory was refused for a list of at most as many bytes as the limit
  abbrev pub EndsByRefusal : (ℕ → Type 0) → ℕ → Server R A → Type 0
  EndsByRefusal refuses limit server = FaultNeedsRefusal refuses limit (refusal_in (outcome_of server))

  -- if that held of a session before the call, it holds after it
  abbrev pub KeepsToMemory : (R → RepoState) → (ℕ → Type 0) → Server R A → Server R A → Type 0
  KeepsToMemory state refuses old new =
      (s : Setting) (so_far : List ℕ) (over : Bool) (before : List ℕ) → Running state s so_far over before old
      → EndsByRefusal refuses s.limit old → EndsByRefusal refuses s.limit new

  -- the call used and sent these bytes: the relation that held before also holds with them
  abbrev pub Goes : (R → RepoState) → List ℕ → List ℕ → Server R A → Server R A → Type 0
  Goes state used given old new =
      (s : Setting) (so_far : List ℕ) (over : Bool) (before : List ℕ) → Running state s so_far over before old
      → Running state s (so_far ++ used) over (before ++ given) new

  -- the same, whatever the packs are
  abbrev pub GoesUnread : (R → RepoState) → List ℕ → List ℕ → Server R A → Server R A → Type 0
  GoesUnread state used given old new = (packs : List Arg → List ℕ) → Goes (state_with packs state) used given old new

  -- the server has used and sent these bytes, whatever the packs are
  abbrev pub RunsUnread : (R → RepoState) → Setting → List ℕ → Bool → List ℕ → Server R A → Type 0
  RunsUnread state s used over given server = (packs : List Arg → List ℕ) → Running (state_with packs state) (setting_with packs s) used over given server

  -- no byte of a pack has to be sent
  abbrev pub HasNoPackUnsent : (R → RepoState) → Server R A → Type 0
  HasNoPackUnsent state server = HasNoPackUnsentIn (state server.repo).answers server.phase

  -- these bytes were sent whatever the packs are, and no byte of a pack has to be sent after them
  pub record GivesUnread (state : R → RepoState) (old : Server R A) (given : List ℕ) (new : Server R A) : Type 0 where
    pub goes : GoesUnread state [] given old new
    pub has_unsent : HasNoPackUnsent state new

  -- the input ended here: the session was closed between two requests, or cut short inside one
  abbrev pub Closes : (R → RepoState) → Server R A → Server R A → Type 0
  Closes state old new =
      (s : Setting) (so_far : List ℕ) (over : Bool) (before : List ℕ) → Running state s so_far over before old
      → Running state s so_far true before new × IsClosing (outcome_of new)

  -- the same, whatever the packs are
  abbrev pub ClosesUnread : (R → RepoState) → Server R A → Server R A → Type 0
  ClosesUnread state old new = (packs : List Arg → List ℕ) → Closes (state_with packs state) old new

  -- the stream is too long only if there was one byte more than was used
  abbrev pub StopsInTime : (R → RepoState) → Server R A → ℕ → List ℕ → Option Outcome → Type 0
  StopsInTime state old used chunk outcome =
      (s : Setting) (so_far : List ℕ) (over : Bool) (before : List ℕ) → Running state s so_far over before old → wants_input old ≡ true
      → (fault : Fault) → outcome ≡ Some (Refused fault) → fault.kind ≡ StreamTooLong → used < length chunk

  -- these packets may be all that still have to be pulled, in this order
  abbrev pub AreUnsentNow : (R → RepoState) → Server R A → List Pkt → Type 0
  AreUnsentNow state server later = AreUnsent server.offer (state server.repo).answers server.phase later

  -- the maximum number of packets that wait
  abbrev pub most_left : (R → RepoState) → Server R A → ℕ
  most_left state server = most_unsent server.offer (state server.repo).answers server.phase

  -- the packet that waits: if it is one of a pack, it has all that the repository returns for a packet
  abbrev pub FillsUnsent : (R → List Arg → ℕ → ℕ → ℕ → Type 0) → Server R A → (Pkt → Type 0) → Type 0
  FillsUnsent gives server Is = FillsPhase (gives server.repo) server.phase Is

  -- the packet comes before whatever waits now
  abbrev pub ComesBefore : (R → RepoState) → Pkt → Server R A → Server R A → Type 0
  ComesBefore state packet old new = (later : List Pkt) → AreUnsentNow state new later → AreUnsentNow state old (packet ∷ later)

  -- with the packet the answer breaks off, and the session ends
  pub record BreaksOff (state : R → RepoState) (packet : Pkt) (old new : Server R A) : Type 0 where
    pub went_on : outcome_of old ≡ None
    pub breaks : MayBreak (state old.repo).answers old.phase (packet ∷ [])
    pub lost : IsPackLost (outcome_of new)
    pub nothing : AreUnsentNow state new []

  -- the packet comes before whatever waits now, or with it the answer breaks off
  abbrev pub ComesFirst : (R → RepoState) → Pkt → Server R A → Server R A → Type 0
  ComesFirst state packet old new = ComesBefore state packet old new ⊎ BreaksOff state packet old new

  -- the bytes used and sent are a session that ended so
  abbrev pub EndsAs : (R → RepoState) → Server R A → Outcome → Type 0
  EndsAs state server outcome =
      (s : Setting) (used : List ℕ) (over : Bool) (given : List ℕ) → Running state s used over given server → IsSession s used over given outcome

  -- the meaning of each result of `pull`
  abbrev pub AnnouncesPulled : (R → RepoState) → Server R A → Pulled → Server R A → Type 0
  AnnouncesPulled state old (Packet bytes) new =
      (packet : Pkt) × ComesFirst state packet old new × (bytes.now ≡ spelling_of packet) × (most_left state new < most_left state old)
  AnnouncesPulled state old NeedInput new = (wants_input old ≡ true) × (new ≡ old)
  AnnouncesPulled state old (Finished outcome) new =
      (outcome_of old ≡ Some outcome) × AreUnsentNow state old [] × (new ≡ old) × EndsAs state old outcome

  -- the effect of a call of `pull`
  pub record Pulls (state : R → RepoState) (old : Server R A) (pulled : Pulled) (new : Server R A) : Type 0 where
    pub goes : Goes state [] (given_by pulled) old new
    pub unread : HasNoPackUnsent state old → GivesUnread state old (given_by pulled) new
    pub announces : AnnouncesPulled state old pulled new
    pub outcome : IsAfterPull (outcome_of old) (outcome_of new)
    pub fits : length (given_by pulled) ≤ 65520
    pub credit : credit_of new.reader ≤ credit_of old.reader

  -- the reader used these bytes, which gave these packets; the offer and the repository are unchanged
  pub record ReadsFor (state : R → RepoState) (old : Server R A) (used : List ℕ) (packets : List Given) (new : Server R A) : Type 0 where
    pub offer : new.offer ≡ old.offer
    pub repo : state new.repo ≡ state old.repo
    pub reads : ReadsOn old.reader used packets new.reader

  -- the offer, the repository and the stored part of a request are unchanged
  pub record Keeps (state : R → RepoState) (old new : Server R A) : Type 0 where
    pub offer : new.offer ≡ old.offer
    pub repo : state new.repo ≡ state old.repo
    pub requests : new.requests ≡ old.requests

  -- the buffer begins with the next packet that has to be sent, which counts as sent
  pub record Gives (state : R → RepoState) (old new : Server R A) : Type 0 where
    pub packet : Pkt
    pub unsent : ComesFirst state packet old new
    pub less : most_left state new < most_left state old
    pub held : StartsWith (held_of new.reader) (spelling_of packet)
    pub fits : length (body_of packet) ≤ longest_payload
    pub credit : credit_of new.reader ≡ 0
    pub goes : Goes state [] (spelling_of packet) old new
    pub unread : HasNoPackUnsent state old → GivesUnread state old (spelling_of packet) new
    pub outcome : IsAfterPull (outcome_of old) (outcome_of new)

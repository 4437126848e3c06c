-- Requests in a stream of bytes: what the bytes ask for, and what a reader represents.
use Rattle.std.specs.Prelude.{◌≡◌, ◌≢◌, ◌⊎◌, ℕ, ◌+◌, ◌-◌, ◌<◌, ◌≤◌, Bool, true, false, List, [], ◌∷◌, ◌++◌, length, take, Option, Some, None, Result, Ok, Err}
use Rattle.arrayvec.specs.ArrayVec.{ArrayVec}
use Rattle.git_pkt.specs.Machine.LentHold.{with_hold}
use Rattle.git_pkt.specs.Splits.{Given, Splits}
use Rattle.git_pkt.specs.Faults.{IsOpen, StopsBy}
use Rattle.git_pkt.specs.Machine.Credit.{credit_of as packet_credit}
use Rattle.git_pkt.specs.Machine.PacketReader.{Reads, bytes_held as held_in_packet, held_of as held_in}
use Rattle.git_pkt.specs.Machine.PacketReader.{ShownByFeed, is_open, position_of, fault_of as packet_fault}
use Rattle.git_pkt.specs.declared.fault.Fault.{Fault}
use Rattle.git_pkt.specs.declared.fault.Kind.TheVariants.{Truncated}
use Rattle.git_msg.specs.declared.offers.Offer.{Offer}
use Rattle.git_msg.specs.declared.requests.Request.{Request}
use Rattle.git_msg.specs.Asked.{Asked}
use Rattle.git_msg.specs.Machine.HeldRequest.{asked_of, format_of, kept_of, limit_of as request_limit}
use Rattle.git_msg.specs.Requests.{AreBegun, Asks, IsAnnounced, IsStop}
use Rattle.git_msg.specs.WholeRequests.{AreRequests}
use Rattle.git_msg.specs.Machine.StreamStages.{fault_in, takes_bytes, stage_is_between}
use Rattle.git_msg.specs.Machine.RequestReader.{Takes, offer_of as offer_in, limit_in, kept_so_far, stored_so_far, fault_of as reader_fault}
use Rattle.git_msg.specs.declared.streams.Stage.{Stage}
use Rattle.git_msg.specs.declared.streams.Stage.TheVariants.{Between, Within, Stopped, Failed}
use Rattle.git_msg.specs.declared.streams.RequestStream.{RequestStream}
use Rattle.git_msg.specs.declared.streams.ReadRequest.{ReadRequest}
use Rattle.git_msg.specs.declared.reader.ReadGot.{ReadGot}
use Rattle.git_msg.specs.declared.reader.ReadGot.TheVariants.{More, Request as RequestGot, Stop as StopGot, Failed as FailedGot}

-- the packets are one whole request, which asks for this
abbrev pub IsOne : Offer → ℕ → List Given → Asked → Type 0
IsOne offer limit packets q = (kept : ℕ) × Asks offer limit packets q kept

-- the bytes are whole requests, which ask for these, then further packets, and then a rest that no packet begins
pub record AreAsked (offer : Offer) (limit : ℕ) (bytes : List ℕ) (asked : List Asked) (left : List Given) (rest : List ℕ) : Type 0 where
  pub packets : List Given
  pub splits : Splits 0 bytes packets rest
  pub requests : AreRequests (IsOne offer limit) packets asked left

-- the last packet is refused, or memory ran out at it; those before it are lines that begin a request
pub record IsRefusedLast (offer : Offer) (limit : ℕ) (left : List Given) (rest : List ℕ) (fault : Fault) : Type 0 where
  pub front : List Given
  pub last : Given
  pub whole : left ≡ front ++ last ∷ []
  pub begun : AreBegun offer limit front
  pub announced : IsAnnounced offer limit left fault
  pub no_rest : rest ≡ []

-- no packet is refused, and the bytes after them belong to no packet
pub record IsRefusedRest (offer : Offer) (limit : ℕ) (left : List Given) (rest : List ℕ) (end : ℕ) (fault : Fault) : Type 0 where
  pub begun : AreBegun offer limit left
  pub stops : StopsBy (end - length rest) rest end fault.kind fault.offset
  pub not_the_end : fault.kind ≢ Truncated

-- no packet is refused, and the input ended inside a request: reported at the end of the last whole packet
pub record IsCutOff (offer : Offer) (limit : ℕ) (left : List Given) (rest : List ℕ) (end : ℕ) (fault : Fault) : Type 0 where
  pub begun : AreBegun offer limit left
  pub still_open : IsOpen rest
  pub inside : (left ≢ []) ⊎ (rest ≢ [])
  pub kind : fault.kind ≡ Truncated
  pub at : fault.offset + length rest ≡ end

-- the refusal of the packets and bytes after the whole requests
abbrev pub IsRefusedAs : Offer → ℕ → List Given → List ℕ → ℕ → Fault → Type 0
IsRefusedAs offer limit left rest end fault =
    IsRefusedLast offer limit left rest fault ⊎ (IsRefusedRest offer limit left rest end fault ⊎ IsCutOff offer limit left rest end fault)

-- the packets that are left in a stage: none between two requests, and within one the lines that begin it
abbrev pub IsLeftIn : Stage → Offer → ℕ → List Given → List ℕ → ℕ → Type 0
IsLeftIn Between offer limit left rest end = left ≡ []
IsLeftIn Within offer limit left rest end = (left ≢ []) × AreBegun offer limit left
IsLeftIn Stopped offer limit left rest end = IsStop left × (rest ≡ [])
IsLeftIn (Failed fault) offer limit left rest end = IsRefusedAs offer limit left rest end fault

module _ {A : Type 0} where
  -- the offer that the requests are read against
  abbrev pub offer_of : RequestStream A → Offer
  offer_of s = offer_in s.requests

  -- how many bytes a request's argument texts may have
  abbrev pub limit_of : RequestStream A → ℕ
  limit_of s = limit_in s.requests

  -- how many bytes the reader has: those of its packet reader's hold, and those stored for its one request
  abbrev pub bytes_held : RequestStream A → ℕ
  bytes_held s = held_in_packet s.packets + stored_so_far s.requests

  -- the same with each field named, so that none can be added without being counted
  abbrev pub bytes_held_by_fields : RequestStream A → ℕ
  bytes_held_by_fields s =
      let record {
        packets = packets;
        requests = requests;
        stage = stage;
        sound = sound;
        open_ended = open_ended;
        gathers = gathers;
        taken = taken;
      } = s in
      held_in_packet packets + stored_so_far requests

  -- the fault that ended the reading
  abbrev pub fault_of : RequestStream A → Option Fault
  fault_of s = fault_in s.stage

  -- the reader reads on: no fault came, and no flush in place of a request
  abbrev pub wants_input : RequestStream A → Bool
  wants_input s = takes_bytes s.stage

  -- no request has begun
  abbrev pub is_between : RequestStream A → Bool
  is_between s = stage_is_between s.stage

  -- a packet has begun and is not whole yet
  abbrev pub is_within_packet : RequestStream A → Bool
  is_within_packet s = is_open s.packets

  -- the steps that the bytes of the open packet leave for its end
  abbrev pub credit_of : RequestStream A → ℕ
  credit_of s = packet_credit s.packets

  -- how many bytes were used
  abbrev pub bytes_used : RequestStream A → ℕ
  bytes_used s = position_of s.packets

  -- the readers inside go on, and the one of requests has taken the packets that are left
  pub record ReadsOnward (left : List Given) (s : RequestStream A) : Type 0 where
    pub sound : packet_fault s.packets ≡ None
    pub takes : Takes left s.requests
    pub open_ended : reader_fault s.requests ≡ None

  -- the reader has used these bytes, and handed out requests that ask for these
  pub record HasRead (used : List ℕ) (asked : List Asked) (s : RequestStream A) : Type 0 where
    pub packets : List Given
    pub left : List Given
    pub rest : List ℕ
    pub reads : Reads s.packets 0 used packets rest
    pub requests : AreRequests (IsOne (offer_of s) (limit_of s)) packets asked left
    pub left_is : IsLeftIn s.stage (offer_of s) (limit_of s) left rest (length used)
    pub onward : wants_input s ≡ true → ReadsOnward left s
    pub within : kept_so_far s.requests ≤ limit_of s

  -- the bytes in the hold of its packet reader
  abbrev pub hold_of : RequestStream A → List ℕ
  hold_of s = held_in s.packets

  -- the hold was lent, and has these bytes afterwards: between two packets they mean nothing to the reader
  pub record IsLent (old : RequestStream A) (hold : ArrayVec ℕ) (new : RequestStream A) : Type 0 where
    pub between : is_within_packet old ≡ false
    pub packets : new.packets ≡ with_hold old.packets hold
    pub requests : new.requests ≡ old.requests
    pub stage : new.stage ≡ old.stage

  -- the hold was not lent, and nothing changed
  pub record IsUnlent (old new : RequestStream A) : Type 0 where
    pub within_packet : is_within_packet old ≡ true
    pub packets : new.packets ≡ old.packets
    pub requests : new.requests ≡ old.requests
    pub stage : new.stage ≡ old.stage

  -- what the requests of an answer ask for
  abbrev pub asked_by : ReadGot A → List Asked
  asked_by (RequestGot request) = asked_of request ∷ []
  asked_by got = []

  -- the last packets in these bytes are the request: they ask for the same, and their texts have as many bytes as it counts
  pub record IsAtTheEnd (bytes : List ℕ) (request : Request A) (s : RequestStream A) : Type 0 where
    pub before : List Given
    pub own : List Given
    pub splits : Splits 0 bytes (before ++ own) []
    pub asks : Asks (offer_of s) (limit_of s) own (asked_of request) (kept_of request)

  -- a request that is handed out is at the end of the bytes
  abbrev pub EndsWith : ReadGot A → List ℕ → RequestStream A → Type 0
  EndsWith (RequestGot request) bytes s = IsAtTheEnd bytes request s
  EndsWith got bytes s = Unit {0}

  -- the state of the reader after each answer
  abbrev pub Leaves : ReadGot A → ℕ → List ℕ → RequestStream A → RequestStream A → Type 0
  Leaves More used chunk old new = wants_input old ≡ true → (used ≡ length chunk) × (wants_input new ≡ true)
  Leaves (RequestGot request) used chunk old new =
      (0 < used) × (is_between new ≡ true) × (is_within_packet new ≡ false) × (format_of request ≡ (offer_of new).format)
      × (kept_of request ≤ limit_of new) × (request_limit request ≡ limit_of new)
  Leaves StopGot used chunk old new = (0 < used) × (wants_input new ≡ false) × (fault_of new ≡ None)
  Leaves (FailedGot fault) used chunk old new = fault_of new ≡ Some fault

  -- a reader that had no fault never reports the end of the input, and reports that the stream is too long only if the chunk has one more byte
  abbrev pub IsNews : RequestStream A → List ℕ → ReadRequest A → Type 0
  IsNews old chunk read = (fault : Fault) → fault_of old ≡ None → read.got ≡ FailedGot fault → ShownByFeed fault read.used chunk

  -- the answer of a reader that has stopped or failed
  abbrev pub announced_again : Option Fault → ReadGot A
  announced_again None = More
  announced_again (Some fault) = FailedGot fault

  -- a reader that has stopped or failed uses nothing, stays as it is, and returns the same answer again
  abbrev pub Stays : RequestStream A → ReadRequest A → RequestStream A → Type 0
  Stays old read new = wants_input old ≡ false → (read.used ≡ 0) × (read.got ≡ announced_again (fault_of old)) × (new ≡ old)

  -- the effect of a call of `feed`, whatever was read before
  pub record Feeds (old : RequestStream A) (chunk : List ℕ) (read : ReadRequest A) (new : RequestStream A) : Type 0 where
    pub reads : (used : List ℕ) (asked : List Asked) → HasRead used asked old → HasRead (used ++ take read.used chunk) (asked ++ asked_by read.got) new
    pub counts : (used : List ℕ) (asked : List Asked) → HasRead used asked old → EndsWith read.got (used ++ take read.used chunk) new
    pub leaves : Leaves read.got read.used chunk old new
    pub news : IsNews old chunk read
    pub stays : Stays old read new
    pub offer : offer_of new ≡ offer_of old
    pub limit : limit_of new ≡ limit_of old

  -- the meaning of a call of `close`: all bytes were whole requests, or the last was cut off
  abbrev pub Closes : Result (Unit {0}) Fault → RequestStream A → RequestStream A → Type 0
  Closes (Ok done) old new =
      (new ≡ old) × ((used : List ℕ) (asked : List Asked) → HasRead used asked old → AreAsked (offer_of old) (limit_of old) used asked [] [])
  Closes (Err fault) old new =
      (fault.kind ≡ Truncated) × (fault_of new ≡ Some fault) × (offer_of new ≡ offer_of old) × (limit_of new ≡ limit_of old)
      × ((used : List ℕ) (asked : List Asked) → HasRead used asked old → HasRead used asked new)

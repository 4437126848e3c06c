-- What a packet reader represents: the stream so far, its packets, and the rest.
use Rattle.std.specs.Prelude.{◌≡◌, ◌≢◌, ℕ, ◌+◌, ◌-◌, ◌<◌, ◌≤◌, Bool, false, List, [], ◌∷◌, ◌++◌, length, take, Option, Some, None}
use Rattle.git_pkt.specs.Packets.{Spells, body_of, seen}
use Rattle.git_pkt.specs.Splits.{Given, Splits}
use Rattle.git_pkt.specs.Faults.{IsOpen, StopsBy, last_position}
use Rattle.git_pkt.specs.Machine.ReaderState.{held_in, come_in, passed_length_in, fault_in, is_open_in, passes_in}
use Rattle.git_pkt.specs.declared.fault.Fault.{Fault}
use Rattle.git_pkt.specs.declared.fault.Kind.TheVariants.{Truncated, StreamTooLong}
use Rattle.git_pkt.specs.declared.reader.PacketReader.{PacketReader}
use Rattle.git_pkt.specs.declared.reader.Fed.{Fed}
use Rattle.git_pkt.specs.declared.reader.Got.{Got}
use Rattle.git_pkt.specs.declared.reader.Got.TheVariants.{More, Packet, Failed}

-- the offset of the next byte
abbrev pub position_of : PacketReader → ℕ
position_of r = r.position

-- a packet has begun and is not whole
abbrev pub is_open : PacketReader → Bool
is_open r = is_open_in r.state

-- the bytes of the open packet pass: the hold has only the first five of them
abbrev pub passes_of : PacketReader → Bool
passes_of r = passes_in r.state

-- the hold, as it is
abbrev pub held_of : PacketReader → List ℕ
held_of r = r.hold.items

-- how many bytes the reader has in its hold, its only field with bytes
abbrev pub bytes_held : PacketReader → ℕ
bytes_held r = length (held_of r)

-- the same, with each field named, so that none can be added without being counted
abbrev pub bytes_held_by_fields : PacketReader → ℕ
bytes_held_by_fields r =
    let record {
      hold = hold;
      position = position;
      field = field;
      state = state;
      within = within;
      gathered = gathered;
      passing = passing;
    } = r in
    length hold.items

-- the bytes of the open packet that the hold has
abbrev pub rest_of : PacketReader → List ℕ
rest_of r = take (held_in r.state) (held_of r)

-- how many bytes of the open packet have come
abbrev pub open_length : PacketReader → ℕ
open_length r = come_in r.state r.field

-- what the reader holds of the rest of a stream: its beginning. The bytes after that were handed out.
pub record Holds (r : PacketReader) (rest : List ℕ) : Type 0 where
  pub passed : List ℕ
  pub all : rest_of r ++ passed ≡ rest
  pub long : length passed ≡ passed_length_in r.state r.field

-- the hold has each byte of the open packet that has come
abbrev pub HoldsAll : PacketReader → Type 0
HoldsAll r = length (rest_of r) ≡ open_length r

-- the fault that ended the reading
abbrev pub fault_of : PacketReader → Option Fault
fault_of r = fault_in r.state

-- the rest of the stream, at p: it is open, or has the fault that was reported
abbrev pub StandsAt : Option Fault → ℕ → ℕ → List ℕ → PacketReader → Type 0
StandsAt None p end rest r = Holds r rest × IsOpen rest
StandsAt (Some f) p end rest r = (is_open r ≡ false) × StopsBy p rest end f.kind f.offset

-- the reader has used these bytes of a stream that starts at `start`: they are these packets and a rest
pub record Reads (r : PacketReader) (start : ℕ) (bytes : List ℕ) (given : List Given) (rest : List ℕ) : Type 0 where
  pub position : position_of r ≡ start + length bytes
  pub within : start + length bytes ≤ last_position
  pub fits : bytes_held r ≤ 65520
  pub splits : Splits start bytes given rest
  pub state : StandsAt (fault_of r) (start + length bytes - length rest) (start + length bytes) rest r

-- the packets that an answer contains
abbrev pub given_by : Got → List Given
given_by More = []
given_by (Packet p offset) = (record { packet = seen p; offset = offset }) ∷ []
given_by (Failed f) = []

-- whatever the stream was so far, the used bytes and the returned packet continue it
abbrev pub ReadsOn : PacketReader → List ℕ → List Given → PacketReader → Type 0
ReadsOn old used more new =
    (start : ℕ) (bytes : List ℕ) (given : List Given) (rest : List ℕ) → Reads old start bytes given rest
    → (later : List ℕ) × Reads new start (bytes ++ used) (given ++ more) later

-- the meaning of each answer of `feed` for the reader
abbrev pub Announces : Got → ℕ → List ℕ → PacketReader → Type 0
Announces More used chunk new = (used ≡ length chunk) × (fault_of new ≡ None)
Announces (Packet p offset) used chunk new =
    (0 < used) × (fault_of new ≡ None) × (is_open new ≡ false) × Spells (seen p) (held_of new)
    × (offset + length (held_of new) ≡ position_of new)
Announces (Failed f) used chunk new = fault_of new ≡ Some f

-- a fault that the bytes of a chunk show: past the last position there is one more byte, which is not used
pub record ShownByFeed (f : Fault) (used : ℕ) (chunk : List ℕ) : Type 0 where
  pub not_the_end : f.kind ≢ Truncated
  pub one_more : f.kind ≡ StreamTooLong → used < length chunk

-- a reader that had no fault reports only a fault that the chunk shows
abbrev pub IsNews : PacketReader → List ℕ → Fed → Type 0
IsNews old chunk fed = (f : Fault) → fault_of old ≡ None → fed.got ≡ Failed f → ShownByFeed f fed.used chunk

-- a reader with this fault uses nothing and returns the fault again
abbrev pub Repeats : PacketReader → Fed → PacketReader → Type 0
Repeats old fed new = (f : Fault) → fault_of old ≡ Some f → (fed.used ≡ 0) × (fed.got ≡ Failed f) × (new ≡ old)

-- after a packet, the hold has its bytes as they came
abbrev pub HoldsAsItCame : PacketReader → List ℕ → Got → PacketReader → Type 0
HoldsAsItCame old used More new = Unit {0}
HoldsAsItCame old used (Packet p offset) new = (rest : List ℕ) → Holds old rest → held_of new ≡ rest ++ used
HoldsAsItCame old used (Failed f) new = Unit {0}

-- how many bytes of the open packet have come after a call; all bytes of a packet that is now whole had come
abbrev pub Counts : PacketReader → ℕ → Got → PacketReader → Type 0
Counts old used More new = open_length new ≡ open_length old + used
Counts old used (Packet p offset) new = (length (body_of (seen p)) + 4 ≡ open_length old + used) × (open_length new ≡ 0)
Counts old used (Failed f) new = open_length new ≡ 0

-- the effect of a call of `feed`
pub record Feeds (old : PacketReader) (chunk : List ℕ) (fed : Fed) (new : PacketReader) : Type 0 where
  pub reads : ReadsOn old (take fed.used chunk) (given_by fed.got) new
  pub announces : Announces fed.got fed.used chunk new
  pub news : IsNews old chunk fed
  pub stays : Repeats old fed new
  pub keeps : fed.used ≡ 0 → held_of new ≡ held_of old
  pub held : HoldsAsItCame old (take fed.used chunk) fed.got new
  pub counts : Counts old fed.used fed.got new
  pub gathers : passes_of new ≡ false

-- Several packets of one call of C: those that calls of `feed` give one after another.
use Rattle.std.specs.Prelude.{◌≡◌, ℕ, ◌+◌, ◌<◌, ◌≤◌, ◌⊎◌, List, [], ◌∷◌, ◌++◌, length, take, drop}
use Rattle.git_pkt.specs.Packets.{body_of, longest_payload, seen}
use Rattle.git_pkt.specs.Machine.PacketReader.{Feeds}
use Rattle.git_pkt.specs.declared.packet.Packet.{Packet}
use Rattle.git_pkt.specs.declared.packet.Packet.TheVariants.{Payload}
use Rattle.git_pkt.specs.declared.reader.Got.{Got}
use Rattle.git_pkt.specs.declared.reader.PacketReader.{PacketReader}
use Rattle.gitwire.specs.Answers.{answering, answering_fault, answering_packet}
use Rattle.gitwire.specs.PacketAnswers.{answer_of}
use Rattle.gitwire.specs.Buffers.{put_before}
use Rattle.gitwire.specs.declared.answer.GitwireAnswer.{GitwireAnswer}
use Rattle.gitwire.specs.declared.answer.What.TheVariants as What

-- a payload is the last of the bytes of the chunk that were used up to its end; or it has more bytes than these, and is at the front of the buffer
abbrev pub PayloadLies : List ℕ → List ℕ → ℕ → Packet → Type 0
PayloadLies chunk buffer end (Payload bytes) =
    (length bytes.now ≤ end → (front : List ℕ) × (take end chunk ≡ front ++ bytes.now))
    × (end < length bytes.now → take (length bytes.now) buffer ≡ bytes.now)
PayloadLies chunk buffer end packet = Unit {0}

-- a call of `feed` on the bytes of the chunk from this place on gives this packet, which is listed so, with its payload in the chunk or in this buffer
pub record GivesNext (old : PacketReader) (chunk buffer : List ℕ) (from : ℕ) (listed : GitwireAnswer) (packet : Packet) (offset used : ℕ)
    (new : PacketReader) : Type 0 where
  pub feeds : Feeds old (drop from chunk) (record { used = used; got = Got.Packet packet offset }) new
  pub lies : PayloadLies chunk buffer (from + used) packet
  pub listed_is : listed ≡ answer_of (from + used) (Got.Packet packet offset)

-- calls of `feed` one after another, each on the bytes of the chunk that no earlier one used, give these packets. The first call begins at the place
-- `from`, and the last one ends at the place `end`.
abbrev pub FeedsEach : PacketReader → List ℕ → List ℕ → ℕ → List GitwireAnswer → PacketReader → ℕ → Type 0
FeedsEach old chunk buffer from [] new end = (new ≡ old) × (end ≡ from)
FeedsEach old chunk buffer from (p ∷ ps) new end =
    (packet : Packet) × (offset : ℕ) × (used : ℕ) × (next : PacketReader)
    × GivesNext old chunk buffer from p packet offset used next
    × FeedsEach next chunk buffer (from + used) ps new end

-- what is reported to C for a call that gives no packet, after as many packets
abbrev pub EndsAs : ℕ → ℕ → Got → GitwireAnswer → Type 0
EndsAs used count Got.More answer = answer ≡ answering_packet used 0 count What.More
EndsAs used count (Got.Failed fault) answer = answer ≡ record (answering_fault used fault) { length = count }
EndsAs used count (Got.Packet packet offset) answer = ⊥

-- one more call gives no packet
pub record GivesNone (old : PacketReader) (chunk : List ℕ) (from count : ℕ) (answer : GitwireAnswer) (new : PacketReader) : Type 0 where
  pub used : ℕ
  pub got : Got
  pub feeds : Feeds old (drop from chunk) (record { used = used; got = got }) new
  pub answer_is : EndsAs (from + used) count got answer

-- no more calls are made, since the array is full
pub record IsFull (old : PacketReader) (from count most : ℕ) (answer : GitwireAnswer) (new : PacketReader) : Type 0 where
  pub full : count ≡ most
  pub answer_is : answer ≡ answering_packet from 0 count What.More
  pub stays : new ≡ old

-- the array has the packets that calls of `feed` give; after them it is full, or one more call gives none. At most one payload is written to the buffer.
pub record ListsPackets (old : PacketReader) (chunk : List ℕ) (packets : List GitwireAnswer) (buffer : List ℕ) (answer : GitwireAnswer)
    (filled : List GitwireAnswer) (written : List ℕ) (new : PacketReader) : Type 0 where
  pub listed : List GitwireAnswer
  pub end : ℕ
  pub last : PacketReader
  pub cut : List ℕ
  pub feeds : FeedsEach old chunk written 0 listed last end
  pub ends : IsFull last end (length listed) (length packets) answer new ⊎ GivesNone last chunk end (length listed) answer new
  pub within : answer.used ≤ length chunk
  pub count_fits : length listed ≤ length packets
  pub cut_fits : length cut ≤ length buffer
  pub packets_are : filled ≡ listed ++ drop (length listed) packets
  pub buffer_is : written ≡ put_before cut buffer

-- nothing happens if the array has no place, or the buffer is too small for the longest payload
pub record ListsInBuffer (old : PacketReader) (chunk : List ℕ) (packets : List GitwireAnswer) (buffer : List ℕ) (answer : GitwireAnswer)
    (filled : List GitwireAnswer) (written : List ℕ) (new : PacketReader) : Type 0 where
  pub small : (length packets ≡ 0) ⊎ (length buffer < longest_payload)
      → (answer ≡ answering What.BufferTooSmall) × (filled ≡ packets) × (written ≡ buffer) × (new ≡ old)
  pub large : 0 < length packets → longest_payload ≤ length buffer → ListsPackets old chunk packets buffer answer filled written new

-- the handle has nothing: that is reported, and the array and the buffer are unchanged
abbrev pub ListsNothing : List GitwireAnswer → List ℕ → GitwireAnswer → List GitwireAnswer → List ℕ → Type 0
ListsNothing packets buffer answer filled written = (answer ≡ answering What.NoRequest) × (filled ≡ packets) × (written ≡ buffer)

-- the buffer after a call that gives this packet: the payload is at its front, if the call used fewer bytes than that has
abbrev pub IsWritten : Packet → ℕ → List ℕ → List ℕ → Type 0
IsWritten (Payload bytes) used buffer written =
    (length bytes.now ≤ used → written ≡ buffer) × (used < length bytes.now → written ≡ put_before bytes.now buffer)
IsWritten packet used buffer written = written ≡ buffer

-- one call of `feed` on the bytes of the chunk from this place on gives a packet
pub record GivesPacket (old : PacketReader) (chunk : List ℕ) (from : ℕ) (buffer : List ℕ) (listed : GitwireAnswer) (written : List ℕ) (new : PacketReader)
    : Type 0 where
  pub packet : Packet
  pub offset : ℕ
  pub used : ℕ
  pub feeds : Feeds old (drop from chunk) (record { used = used; got = Got.Packet packet offset }) new
  pub within : from + used ≤ length chunk
  pub fits : length (body_of (seen packet)) ≤ longest_payload
  pub packet_is : listed ≡ answer_of (from + used) (Got.Packet packet offset)
  pub buffer_is : IsWritten packet used buffer written

-- the same call gives none, and the buffer is unchanged
abbrev pub EndsHere : PacketReader → List ℕ → ℕ → ℕ → List ℕ → GitwireAnswer → List ℕ → PacketReader → Type 0
EndsHere old chunk from count buffer answer written new =
    GivesNone old chunk from count answer new × (answer.used ≤ length chunk) × (written ≡ buffer)

-- Several packets of one call of C that has no buffer: a payload that is not whole in the chunk stays in the reader, which lends it.
use Rattle.std.specs.Prelude.{◌≡◌, ℕ, ◌+◌, ◌<◌, ◌≤◌, ◌⊎◌, List, [], ◌∷◌, ◌++◌, length, drop}
use Rattle.git_pkt.specs.Packets.{body_of, longest_payload, seen}
use Rattle.git_pkt.specs.Machine.PacketReader.{Feeds}
use Rattle.git_pkt.specs.declared.packet.Packet.{Packet}
use Rattle.git_pkt.specs.declared.reader.Got.{Got}
use Rattle.git_pkt.specs.declared.reader.PacketReader.{PacketReader}
use Rattle.gitwire.specs.Answers.{answering, answering_packet}
use Rattle.gitwire.specs.PacketAnswers.{answer_of}
use Rattle.gitwire.specs.PacketLists.{FeedsEach, GivesNone, IsFull}
use Rattle.gitwire.specs.PayloadsLent.{payload_held}
use Rattle.gitwire.specs.declared.answer.GitwireAnswer.{GitwireAnswer}
use Rattle.gitwire.specs.declared.answer.What.TheVariants as What

-- one call of `feed` on the bytes of the chunk from this place on gives a packet, which is listed so
pub record GivesListed (old : PacketReader) (chunk : List ℕ) (from : ℕ) (listed : GitwireAnswer) (new : PacketReader) : Type 0 where
  pub packet : Packet
  pub offset : ℕ
  pub used : ℕ
  pub feeds : Feeds old (drop from chunk) (record { used = used; got = Got.Packet packet offset }) new
  pub within : from + used ≤ length chunk
  pub fits : length (body_of (seen packet)) ≤ longest_payload
  pub packet_is : listed ≡ answer_of (from + used) (Got.Packet packet offset)

-- the same call gives none
abbrev pub GivesNoneListed : PacketReader → List ℕ → ℕ → ℕ → GitwireAnswer → PacketReader → Type 0
GivesNoneListed old chunk from count answer new = GivesNone old chunk from count answer new × (answer.used ≤ length chunk)

-- no more calls are made, since the one packet has a payload with more bytes than were used, which the reader has to keep
pub record IsKept (last : PacketReader) (end : ℕ) (listed : List GitwireAnswer) (answer : GitwireAnswer) (new : PacketReader) : Type 0 where
  pub packet : GitwireAnswer
  pub alone : listed ≡ packet ∷ []
  pub longer : packet.used < packet.length
  pub answer_is : answer ≡ answering_packet end 0 1 What.More
  pub stays : new ≡ last

-- the array has the packets that calls of `feed` give, and a payload that is not whole in the chunk is what the reader lends afterwards. After them the
-- array is full, or the reader has to keep a payload, or one more call gives no packet.
pub record ListsHeld (old : PacketReader) (chunk : List ℕ) (packets : List GitwireAnswer) (answer : GitwireAnswer) (filled : List GitwireAnswer)
    (new : PacketReader) : Type 0 where
  pub listed : List GitwireAnswer
  pub end : ℕ
  pub last : PacketReader
  pub feeds : FeedsEach old chunk (payload_held new) 0 listed last end
  pub ends :
      IsFull last end (length listed) (length packets) answer new
      ⊎ (IsKept last end listed answer new ⊎ GivesNone last chunk end (length listed) answer new)
  pub within : answer.used ≤ length chunk
  pub count_fits : length listed ≤ length packets
  pub packets_are : filled ≡ listed ++ drop (length listed) packets

-- nothing happens if the array has no place
pub record ListsInPlace (old : PacketReader) (chunk : List ℕ) (packets : List GitwireAnswer) (answer : GitwireAnswer) (filled : List GitwireAnswer)
    (new : PacketReader) : Type 0 where
  pub small : length packets ≡ 0 → (answer ≡ answering What.BufferTooSmall) × (filled ≡ packets) × (new ≡ old)
  pub large : 0 < length packets → ListsHeld old chunk packets answer filled new

-- the handle has nothing: that is reported, and the array is unchanged
abbrev pub ListsNoneInPlace : List GitwireAnswer → GitwireAnswer → List GitwireAnswer → Type 0
ListsNoneInPlace packets answer filled = (answer ≡ answering What.NoRequest) × (filled ≡ packets)

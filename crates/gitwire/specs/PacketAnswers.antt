-- What is reported to C for a packet reader's calls.
use Rattle.std.specs.Prelude.{◌≡◌, ℕ, ◌+◌, ◌≤◌, ◌<◌, true, false, List, [], length, Option, Some, None}
use Rattle.git_pkt.specs.Packets.{longest_payload}
use Rattle.git_pkt.specs.Machine.PacketReader.{Feeds, Reads, ReadsOn, fault_of, is_open, open_length, position_of}
use Rattle.git_pkt.specs.declared.fault.Fault.{Fault}
use Rattle.git_pkt.specs.declared.fault.Kind.TheVariants.{Truncated}
use Rattle.git_pkt.specs.declared.packet.Packet.TheVariants.{Flush, Delim, RespEnd, Payload}
use Rattle.git_pkt.specs.declared.reader.Fed.{Fed}
use Rattle.git_pkt.specs.declared.reader.Got.{Got}
use Rattle.git_pkt.specs.declared.reader.Got.TheVariants.{More, Packet, Failed}
use Rattle.git_pkt.specs.declared.reader.PacketReader.{PacketReader}
use Rattle.gitwire.specs.Buffers.{put_before}
use Rattle.gitwire.specs.Answers.{answering, answering_fault, answering_packet, answering_used, what_number}
use Rattle.gitwire.specs.declared.answer.GitwireAnswer.{GitwireAnswer}
use Rattle.gitwire.specs.declared.answer.What.TheVariants as What

-- a reader of a stream before its first byte, or none if memory ran out
abbrev pub Begins : ℕ → Option PacketReader → Type 0
Begins answer None = answer ≡ what_number What.OutOfMemory
Begins answer (Some reader) = (answer ≡ what_number What.Done) × Reads reader 0 [] [] [] × (fault_of reader ≡ None)

-- what is reported to C for an answer
abbrev pub answer_of : ℕ → Got → GitwireAnswer
answer_of used More = answering_used used What.More
answer_of used (Packet Flush offset) = answering_packet used offset 0 What.Flush
answer_of used (Packet Delim offset) = answering_packet used offset 0 What.Delim
answer_of used (Packet RespEnd offset) = answering_packet used offset 0 What.ResponseEnd
answer_of used (Packet (Payload bytes) offset) = answering_packet used offset (length bytes.now) What.Payload
answer_of used (Failed fault) = answering_fault used fault

-- the buffer: a payload is at its front
abbrev pub filled_by : Got → List ℕ → List ℕ
filled_by More buffer = buffer
filled_by (Packet Flush offset) buffer = buffer
filled_by (Packet Delim offset) buffer = buffer
filled_by (Packet RespEnd offset) buffer = buffer
filled_by (Packet (Payload bytes) offset) buffer = put_before bytes.now buffer
filled_by (Failed fault) buffer = buffer

-- the reader reads, and it is reported to C what came, with no more bytes used than the chunk has
pub record FeedsAnswers (old : PacketReader) (chunk buffer : List ℕ) (answer : GitwireAnswer) (filled : List ℕ) (new : PacketReader) : Type 0 where
  pub fed : Fed
  pub feeds : Feeds old chunk fed new
  pub within : fed.used ≤ length chunk
  pub answer_is : answer ≡ answer_of fed.used fed.got
  pub buffer_is : filled ≡ filled_by fed.got buffer

-- nothing happens if the buffer is too small for the longest payload
pub record FeedsInBuffer (old : PacketReader) (chunk buffer : List ℕ) (answer : GitwireAnswer) (filled : List ℕ) (new : PacketReader) : Type 0 where
  pub small : length buffer < longest_payload → (answer ≡ answering What.BufferTooSmall) × (filled ≡ buffer) × (new ≡ old)
  pub large : longest_payload ≤ length buffer → FeedsAnswers old chunk buffer answer filled new

-- an error at the end: the one that the reader had, or that a packet is cut off
pub record FailsAtEnd (old : PacketReader) (fault : Fault) (new : PacketReader) : Type 0 where
  pub stays : fault_of new ≡ Some fault
  pub repeats : (earlier : Fault) → fault_of old ≡ Some earlier → (fault ≡ earlier) × (new ≡ old)
  pub truncated : fault_of old ≡ None → (is_open old ≡ true) × (fault.kind ≡ Truncated) × (fault.offset + open_length old ≡ position_of old)

-- how a stream ends: well, between packets, or with an error
abbrev pub Ends : PacketReader → Option Fault → PacketReader → Type 0
Ends old None new = (new ≡ old) × (fault_of old ≡ None) × (is_open old ≡ false)
Ends old (Some fault) new = FailsAtEnd old fault new

-- what is reported to C about the end
abbrev pub answer_of_end : Option Fault → GitwireAnswer
answer_of_end None = answering What.Done
answer_of_end (Some fault) = answering_fault 0 fault

-- the stream ends, and it is reported to C how
pub record ClosesAnswers (old : PacketReader) (answer : GitwireAnswer) (new : PacketReader) : Type 0 where
  pub fault : Option Fault
  pub ends : Ends old fault new
  pub carries : ReadsOn old [] [] new
  pub answer_is : answer ≡ answer_of_end fault

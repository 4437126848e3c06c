-- The escapes of bytes for C.
use Rattle.std.specs.Prelude.{◌≡◌, ℕ, ◌+◌, ◌≤◌, ◌<◌, List, length, take}
use Rattle.git_pkt.specs.Escape.{escaped_of}
use Rattle.gitwire.specs.Answers.{answering, answering_packet}
use Rattle.gitwire.specs.Buffers.{put_before}
use Rattle.gitwire.specs.declared.answer.GitwireAnswer.{GitwireAnswer}
use Rattle.gitwire.specs.declared.answer.What.TheVariants.{Done, More, BufferTooSmall}

-- this many bytes of the text, the first ones, are escaped, and their escapes are at the front of the buffer: all of them, or as many as
-- fit
pub record EscapesFront (bytes buffer : List ℕ) (used : ℕ) (answer : GitwireAnswer) (filled : List ℕ) : Type 0 where
  pub within : used ≤ length bytes
  pub fits : length (escaped_of (take used bytes)) ≤ length buffer
  pub filled_is : filled ≡ put_before (escaped_of (take used bytes)) buffer
  pub all : used ≡ length bytes → answer ≡ answering_packet used 0 (length (escaped_of (take used bytes))) Done
  pub some : used < length bytes → answer ≡ answering_packet used 0 (length (escaped_of (take used bytes))) More
  pub most : used < length bytes → length buffer < length (escaped_of (take (used + 1) bytes))

-- as many bytes are escaped as fit into the buffer; it is too small if the longest escape does not fit
pub record Escapes (bytes buffer : List ℕ) (answer : GitwireAnswer) (filled : List ℕ) : Type 0 where
  pub escaped : 4 ≤ length buffer → EscapesFront bytes buffer answer.used answer filled
  pub too_small : length buffer < 4 → (answer ≡ answering BufferTooSmall) × (filled ≡ buffer)

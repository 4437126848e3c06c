-- Bytes for C.
use Rattle.std.specs.Prelude.{◌≡◌, ℕ, ◌≤◌, ◌<◌, List, ◌++◌, length, drop}
use Rattle.gitwire.specs.Answers.{answering, answering_packet}
use Rattle.gitwire.specs.declared.answer.GitwireAnswer.{GitwireAnswer}
use Rattle.gitwire.specs.declared.answer.What.TheVariants.{Done, BufferTooSmall}

-- the bytes are at the front of the buffer
abbrev pub put_before : List ℕ → List ℕ → List ℕ
put_before bytes buffer = bytes ++ drop (length bytes) buffer

-- the bytes are at the front of the buffer, and it is reported how many; nothing is written if the buffer is too small
pub record Puts (bytes buffer : List ℕ) (answer : ℕ) (filled : List ℕ) : Type 0 where
  pub fits : length bytes ≤ length buffer → (answer ≡ length bytes) × (filled ≡ put_before bytes buffer)
  pub small : length buffer < length bytes → (answer ≡ 0) × (filled ≡ buffer)

-- the bytes are at the front of the buffer, and it is reported to C how many; or it is reported that the buffer is too small, and nothing is written
pub record Fills (bytes buffer : List ℕ) (answer : GitwireAnswer) (filled : List ℕ) : Type 0 where
  pub done : length bytes ≤ length buffer → (answer ≡ answering_packet 0 0 (length bytes) Done) × (filled ≡ put_before bytes buffer)
  pub too_small : length buffer < length bytes → (answer ≡ answering BufferTooSmall) × (filled ≡ buffer)

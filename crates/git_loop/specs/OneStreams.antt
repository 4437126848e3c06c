-- One reader as the only input of a run, and one writer as its only output.
use Rattle.std.specs.Prelude.{◌≡◌, ℕ, Bool, List}
use Rattle.std.specs.Borrow.{MutBor}
use Rattle.git_pkt.specs.declared.recorded.Recorded.{Recorded}
use Rattle.git_loop.specs.Streams.{window_of}
use Rattle.git_loop.specs.declared.streams.OneInput.{OneInput}
use Rattle.git_loop.specs.declared.streams.OneOutput.{OneOutput}

module _ {R : Type 0} where
  abbrev pub reader_of : OneInput R → Recorded R
  reader_of one = one.reader.now

  -- the bytes that were read and not used yet
  abbrev pub waiting_in : OneInput R → List ℕ
  waiting_in one = window_of one.start one.end one.buffer.now

  -- it reads through this borrow of a reader
  abbrev pub ReadsFrom : OneInput R → MutBor (Recorded R) → Type 0
  ReadsFrom one reader = one.reader.ghost_name ≡ reader.ghost_name

  -- what it reads goes into this borrow of memory
  abbrev pub ReadsInto : OneInput R → MutBor (List ℕ) → Type 0
  ReadsInto one buffer = one.buffer.ghost_name ≡ buffer.ghost_name

  -- both have the same reader and the same buffer
  abbrev pub HaveSameReader : OneInput R → OneInput R → Type 0
  HaveSameReader old new = (new.reader.ghost_name ≡ old.reader.ghost_name) × (new.buffer.ghost_name ≡ old.buffer.ghost_name)

module _ {W : Type 0} where
  abbrev pub writer_of : OneOutput W → Recorded W
  writer_of one = one.writer.now

  -- it writes through this borrow of a writer
  abbrev pub WritesTo : OneOutput W → MutBor (Recorded W) → Type 0
  WritesTo one writer = one.writer.ghost_name ≡ writer.ghost_name

  -- nothing was sent since the last flush
  abbrev pub is_flushed : OneOutput W → Bool
  is_flushed one = one.flushed

  -- both have the same writer
  abbrev pub HaveSameWriter : OneOutput W → OneOutput W → Type 0
  HaveSameWriter old new = new.writer.ghost_name ≡ old.writer.ghost_name

-- The text that a `RepositoryReader` has read.
use Rattle.std.specs.Prelude.{◌≡◌, ℕ, ◌+◌, ◌<◌, List, length, vec_capacity}
use Rattle.git_msg.specs.Texts.{parts_of}
use Rattle.git_repository.specs.Machine.RepositoryProgress.{HasFailed, Stands}
use Rattle.git_repository.specs.declared.repository_reader.RepositoryReader.{RepositoryReader}

module _ {M : Type 0} where
  -- a line was refused
  abbrev pub HasRefusedLine : RepositoryReader M → Type 0
  HasRefusedLine reader = HasFailed reader.progress

  -- there is no space for so many bytes after the line that is open
  abbrev pub LacksBuffer : RepositoryReader M → ℕ → Type 0
  LacksBuffer reader bytes = vec_capacity reader.begun < length reader.begun.items + bytes

  -- the number of buffered bytes of the line that is open
  abbrev pub open_bytes : RepositoryReader M → ℕ
  open_bytes reader = length reader.begun.items

  -- the reader was fed this text, or enough of it to show the line that it refused
  abbrev pub Reads : (ℕ → Type 0) → RepositoryReader M → List ℕ → Type 0
  Reads refuses reader text = Stands refuses reader.progress reader.begun.items (parts_of 10 text)

  -- the contents that were read and the line that has begun are unchanged
  pub record Stays (old new : RepositoryReader M) : Type 0 where
    pub progress : new.progress ≡ old.progress
    pub begun : new.begun.items ≡ old.begun.items
    pub space : vec_capacity new.begun ≡ vec_capacity old.begun

-- What a reader of packets does with an answer that passes.
use Rattle.std.specs.Prelude.{◌≡◌, ℕ, ◌≤◌, ◌<◌, false, List, ◌++◌, length, take, Option, Some, None, Result, Ok, Err}
use Rattle.git_pkt.specs.Splits.{Given}
use Rattle.git_pkt.specs.Machine.PacketReader.{Reads, ShownByFeed, fault_of, passes_of, position_of}
use Rattle.git_pkt.specs.declared.fault.Fault.{Fault}
use Rattle.git_pkt.specs.declared.fault.Kind.TheVariants.{Truncated}
use Rattle.git_pkt.specs.declared.reader.PacketReader.{PacketReader}
use Rattle.git_client.specs.declared.events.Ending.{Ending}
use Rattle.git2show_lib.specs.Others.{AreCutOff, BreakOff, IsAnswerBegun, IsOtherAnswer, NoneIs, last_of}

-- it has packets of an answer, and none is the last
pub record Passes (ending : Ending) (used : List ℕ) (r : PacketReader) : Type 0 where
  pub given : List Given
  pub rest : List ℕ
  pub reads : Reads r 0 used given rest
  pub goes_on : NoneIs (last_of ending) given

-- it has a whole answer
pub record HasPassed (ending : Ending) (used : List ℕ) (r : PacketReader) : Type 0 where
  pub answer : IsOtherAnswer ending used
  pub position : position_of r ≡ length used

-- the bytes of an answer break off
pub record BreaksOff (ending : Ending) (used : List ℕ) (fault : Fault) : Type 0 where
  pub rest : List ℕ
  pub begun : IsAnswerBegun ending used rest
  pub breaks : BreakOff rest (length used) fault

-- all of the chunk was used, and more is expected
pub record PassesAll (ending : Ending) (old new : PacketReader) (chunk : List ℕ) : Type 0 where
  pub sound : fault_of new ≡ None
  pub gathers : passes_of new ≡ false
  pub passes : (used : List ℕ) → Passes ending used old → Passes ending (used ++ chunk) new

-- the answer ends in the chunk
pub record PassesUpTo (ending : Ending) (used : ℕ) (old new : PacketReader) (chunk : List ℕ) : Type 0 where
  pub some : 0 < used
  pub within : used ≤ length chunk
  pub passes : (bytes : List ℕ) → Passes ending bytes old → HasPassed ending (bytes ++ take used chunk) new

-- it breaks off there
pub record BreaksIn (ending : Ending) (fault : Fault) (old : PacketReader) (chunk : List ℕ) : Type 0 where
  pub used : ℕ
  pub breaks : (bytes : List ℕ) → Passes ending bytes old → BreaksOff ending (bytes ++ take used chunk) fault
  pub shown : ShownByFeed fault used chunk

-- how a chunk passed
abbrev pub PassesChunk : Ending → Result (Option ℕ) Fault → PacketReader → PacketReader → List ℕ → Type 0
PassesChunk ending (Ok None) old new chunk = PassesAll ending old new chunk
PassesChunk ending (Ok (Some used)) old new chunk = PassesUpTo ending used old new chunk
PassesChunk ending (Err fault) old new chunk = BreaksIn ending fault old chunk

-- the input ends after packets, where more are expected
abbrev pub ClosesAnswer : Fault → PacketReader → Type 0
ClosesAnswer fault old =
    (fault.kind ≡ Truncated)
    × ((used : List ℕ) (given : List Given) (rest : List ℕ) → Reads old 0 used given rest → AreCutOff rest (length used) fault)

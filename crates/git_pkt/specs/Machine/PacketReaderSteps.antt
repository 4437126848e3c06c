-- The parts of a reader's step.
use Rattle.std.specs.Prelude.{◌≡◌, ◌≢◌, ℕ, ◌+◌, ◌-◌, false, List, ◌++◌, length, Some, None}
use Rattle.git_pkt.specs.Splits.{NoneBegins}
use Rattle.git_pkt.specs.Faults.{StopsBy}
use Rattle.git_pkt.specs.Machine.HeldPacket.{IsWhole}
use Rattle.git_pkt.specs.declared.fault.Kind.TheVariants.{Truncated, StreamTooLong}
use Rattle.git_pkt.specs.Machine.PacketReader.{ShownByFeed, position_of, is_open, passes_of, held_of, rest_of, fault_of}
use Rattle.git_pkt.specs.declared.fault.Fault.{Fault}
use Rattle.git_pkt.specs.declared.fault.Kind.{Kind}
use Rattle.git_pkt.specs.declared.reader.PacketReader.{PacketReader}
use Rattle.git_pkt.specs.declared.progress.Progress.{Progress}
use Rattle.git_pkt.specs.declared.progress.Progress.TheVariants.{Open, Whole, Failed}

-- the rest stays open
pub record StaysOpen (rest : List ℕ) (new : PacketReader) : Type 0 where
  pub no_fault : fault_of new ≡ None
  pub gathers : passes_of new ≡ false
  pub rest_is : rest_of new ≡ rest

-- the rest is a packet, which lies in the hold
pub record IsHeld (rest : List ℕ) (new : PacketReader) : Type 0 where
  pub no_fault : fault_of new ≡ None
  pub closed : is_open new ≡ false
  pub held : held_of new ≡ rest
  pub whole : IsWhole rest new.field

-- the rest has a fault, which ends the reading
pub record Stops (rest : List ℕ) (f : Fault) (new : PacketReader) : Type 0 where
  pub announced : fault_of new ≡ Some f
  pub closed : is_open new ≡ false
  pub none : NoneBegins rest
  pub by : StopsBy (position_of new - length rest) rest (position_of new) f.kind f.offset

abbrev pub Arrives : Progress → List ℕ → PacketReader → Type 0
Arrives Open rest new = StaysOpen rest new
Arrives Whole rest new = IsHeld rest new
Arrives (Failed f) rest new = Stops rest f new

-- a reader with no fault has taken the bytes u
pub record Moves (old : PacketReader) (u : List ℕ) (progress : Progress) (new : PacketReader) : Type 0 where
  pub position : position_of new ≡ position_of old + length u
  pub arrives : Arrives progress (rest_of old ++ u) new

-- the reader ended with this fault, and is otherwise as it was
pub record IsStopped (old : PacketReader) (kind : Kind) (offset : ℕ) (progress : Progress) (new : PacketReader) : Type 0 where
  pub progress_is : progress ≡ Failed (record { kind = kind; offset = offset })
  pub announced : fault_of new ≡ Some (record { kind = kind; offset = offset })
  pub closed : is_open new ≡ false
  pub position : position_of new ≡ position_of old

-- a fault of the packet itself: neither the end of the input nor that of the stream's positions
abbrev pub IsOfPacket : Progress → Type 0
IsOfPacket Open = Unit {0}
IsOfPacket Whole = Unit {0}
IsOfPacket (Failed f) = (f.kind ≢ Truncated) × (f.kind ≢ StreamTooLong)

-- a fault that bytes of the chunk show; past the last position the byte that shows it is not used
abbrev pub IsShown : Progress → ℕ → List ℕ → Type 0
IsShown Open used chunk = Unit {0}
IsShown Whole used chunk = Unit {0}
IsShown (Failed f) used chunk = ShownByFeed f used chunk

-- Refusals of memory.
use Rattle.std.specs.Prelude.{◌≡◌, ℕ, ◌≤◌, Option, None, Some}
use denote.RattleType.{RattleType}
use denote.Memory.{lone}
use prog.Memory.{size}
use Rattle.git_pkt.specs.declared.fault.Fault.{Fault}
use Rattle.git_pkt.specs.declared.fault.Kind.{Kind}
use Rattle.git_pkt.specs.declared.fault.Kind.TheVariants.{OutOfMemory}

-- how many bytes an item of a list has
abbrev pub bytes_each : RattleType → ℕ
bytes_each R = size (lone R.mir)

-- memory for a list of at most so many bytes was refused
abbrev pub HasRefused : (ℕ → Type 0) → ℕ → Type 0
HasRefused refuses most = ∥ ((bytes : ℕ) × refuses bytes × (bytes ≤ most)) ∥₁

-- an error of this kind is not lack of memory, unless memory for a list of at most so many bytes was refused
abbrev pub NeedsRefusal : (ℕ → Type 0) → ℕ → Kind → Type 0
NeedsRefusal refuses most kind = kind ≡ OutOfMemory → HasRefused refuses most

-- the same for a fault, if there is one
abbrev pub FaultNeedsRefusal : (ℕ → Type 0) → ℕ → Option Fault → Type 0
FaultNeedsRefusal refuses most None = Unit {0}
FaultNeedsRefusal refuses most (Some fault) = NeedsRefusal refuses most fault.kind

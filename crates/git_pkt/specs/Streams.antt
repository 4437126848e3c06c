-- The effect of a run on the bytes of its streams, however many streams it has.
use Rattle.std.specs.Prelude.{◌≡◌, ℕ, ◌<◌, Bool, true, false, List, [], ◌∷◌, ◌++◌, length, Option, Result, Err}
use Rattle.std.specs.Io.KnownBytes.{Appends, Consumes}
use Rattle.git_pkt.specs.declared.fault.Kind.{Kind}
use Rattle.git_pkt.specs.declared.fault.Kind.TheVariants.{Truncated, StreamTooLong}
use Rattle.git_pkt.specs.declared.fault.RunFault.{RunFault}
use Rattle.git_pkt.specs.declared.fault.RunFault.TheVariants.{WriteFault}

-- a stream at the beginning and at the end of a run: the bytes that are left to read of it, or those that it holds, if known
pub record Flow : Type 0 where
  pub before : Option (List ℕ)
  pub after : Option (List ℕ)

abbrev pub flow : Option (List ℕ) → Option (List ℕ) → Flow
flow before after = record { before = before; after = after }

-- how a run relates bytes: those that it read from each of its readers, and those that it passed to each of its writers
abbrev pub StreamRelation : Type 1
StreamRelation = List (List ℕ) → List (List ℕ) → Type 0

-- a prefix of these bytes was appended, possibly none or all of them
abbrev pub AppendsFront : Option (List ℕ) → Option (List ℕ) → List ℕ → Type 0
AppendsFront old new bytes = (front : List ℕ) × (rest : List ℕ) × (bytes ≡ front ++ rest) × Appends old new front

-- all these bytes were written; if a write failed, a prefix of them
abbrev pub WrittenAs : Bool → Flow → List ℕ → Type 0
WrittenAs false stream bytes = Appends stream.before stream.after bytes
WrittenAs true stream bytes = AppendsFront stream.before stream.after bytes

-- exactly these bytes were read from each reader
abbrev pub AreRead : List Flow → List (List ℕ) → Type 0
AreRead [] [] = Unit {0}
AreRead (stream ∷ streams) (bytes ∷ more) = Consumes stream.before stream.after bytes × AreRead streams more
AreRead _ _ = ⊥

-- exactly these bytes were written to each writer, or prefixes of them
abbrev pub AreWritten : Bool → List Flow → List (List ℕ) → Type 0
AreWritten broken [] [] = Unit {0}
AreWritten broken (stream ∷ streams) (bytes ∷ more) = WrittenAs broken stream bytes × AreWritten broken streams more
AreWritten broken _ _ = ⊥

-- the bytes that a run read and wrote; if a write failed, a prefix of its output was written
pub record Moves (broken : Bool) (P : StreamRelation) (readers writers : List Flow) : Type 0 where
  pub used : List (List ℕ)
  pub given : List (List ℕ)
  pub read : AreRead readers used
  pub written : AreWritten broken writers given
  pub related : P used given

-- a write failed
abbrev pub is_broken : {T : Type 0} → Result T RunFault → Bool
is_broken (Err WriteFault) = true
is_broken result = false

-- a stream is truncated only if the input has ended, and too long only if there is one more byte
abbrev pub IsTimely : Kind → Bool → List ℕ → Type 0
IsTimely Truncated ended unused = (unused ≡ []) × (ended ≡ true)
IsTimely StreamTooLong ended unused = 0 < length unused
IsTimely _ ended unused = Unit {0}

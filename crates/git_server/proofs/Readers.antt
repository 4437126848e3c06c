-- What follows of a packet reader from what it has read.
use Rattle.std.proofs.Common.{◌≡◌, ℕ, [], Option, Some, None, refl, arith}
use Rattle.git_pkt.specs.Faults.{StopsBy}
use Rattle.git_pkt.specs.Machine.PacketReader.{Reads, StandsAt, fault_of}
use Rattle.git_pkt.specs.declared.fault.Fault.{Fault}
use Rattle.git_pkt.specs.declared.fault.Kind.{Kind}
use Rattle.git_pkt.specs.declared.fault.Kind.TheVariants.{BadDigit, BadLength, TooLong, Truncated, StreamTooLong}
use Rattle.git_pkt.specs.declared.reader.PacketReader.{PacketReader}

-- nothing refuses a stream of no bytes
nothing_stops : (kind : Kind) (offset : ℕ) → StopsBy 0 [] 0 kind offset → ⊥
nothing_stops Truncated offset (open_rest, some, at) = absurd (omega arith)
nothing_stops StreamTooLong offset (open_rest, last, at) = absurd (omega arith)
nothing_stops BadDigit offset ((k, first, at), shows) = let there = first.there in absurd (omega arith)
nothing_stops BadLength offset ((digits, number, at), shows) = let four = digits.four in absurd (omega arith)
nothing_stops TooLong offset ((digits, number, at), shows) = let four = digits.four in absurd (omega arith)
nothing_stops _ offset h = h.0

no_fault_by : (o : Option Fault) (r : PacketReader) → StandsAt o 0 0 [] r → o ≡ None
no_fault_by None r stands = refl
no_fault_by (Some f) r (shut, stops) = absurd (nothing_stops f.kind f.offset stops)

-- a reader of no bytes has no fault
pub fresh_has_no_fault : (r : PacketReader) → Reads r 0 [] [] [] → fault_of r ≡ None
fresh_has_no_fault r h = no_fault_by (fault_of r) r h.state

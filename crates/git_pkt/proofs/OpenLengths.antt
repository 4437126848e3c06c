-- The number of bytes so far of the open packet, from call to call.
use Rattle.std.proofs.Common.{arith, ◌≡◌, ℕ, ◌+◌, ◌≤◌, false, List, length, Some, refl, ap, length-append, length-drop}
use Rattle.git_pkt.specs.Packets.{Pkt, Spells, body_of}
use Rattle.git_pkt.specs.Machine.ReaderState.{come_in, fault_in, is_open_in}
use Rattle.git_pkt.specs.Machine.PacketReader.{fault_of, held_of, is_open, open_length, passes_of, rest_of}
use Rattle.git_pkt.specs.Machine.PacketReaderSteps.{Moves}
use Rattle.git_pkt.specs.declared.fault.Fault.{Fault}
use Rattle.git_pkt.specs.declared.reader.PacketReader.{PacketReader}
use Rattle.git_pkt.specs.declared.progress.Progress.TheVariants.{Open, Whole}
use Rattle.git_pkt.specs.declared.reader.State.{State}
use Rattle.git_pkt.specs.declared.reader.State.TheVariants.{Between, Gathering, Passing, Failed}
use Rattle.git_pkt.proofs.KnownRest.{all_is_held}

none_come : (s : State) (field : ℕ) → is_open_in s ≡ false → come_in s field ≡ 0
none_come Between field e = refl
none_come (Gathering count) field e = absurd (cc)
none_come (Passing left) field e = absurd (cc)
none_come (Failed fault) field e = refl

pub shut_counts_none : (r : PacketReader) → is_open r ≡ false → open_length r ≡ 0
shut_counts_none r e = none_come r.state r.field e

failed_is_shut : (s : State) (f : Fault) → fault_in s ≡ Some f → is_open_in s ≡ false
failed_is_shut Between f e = absurd (cc)
failed_is_shut (Gathering count) f e = absurd (cc)
failed_is_shut (Passing left) f e = absurd (cc)
failed_is_shut (Failed fault) f e = refl

pub failed_counts_none : (r : PacketReader) (f : Fault) → fault_of r ≡ Some f → open_length r ≡ 0
failed_counts_none r f e = shut_counts_none r (failed_is_shut r.state f e)

pub open_counts : (old new : PacketReader) (u : List ℕ) (n : ℕ) → passes_of old ≡ false → length u ≡ n → Moves old u Open new
    → open_length new ≡ open_length old + n
open_counts old new u n gathers long m =
    omega (arith, all_is_held old gathers, all_is_held new m.arrives.gathers, ap length m.arrives.rest_is, length-append (rest_of old) u, long)

-- a packet that is whole in the hold has the bytes from before and those used
pub held_counts : (old new : PacketReader) (u : List ℕ) (n : ℕ) → passes_of old ≡ false → length u ≡ n → Moves old u Whole new
    → length (held_of new) ≡ open_length old + n
held_counts old new u n gathers long m = omega (arith, all_is_held old gathers, ap length m.arrives.held, length-append (rest_of old) u, long)

-- its length
pub spelled_counts : (p : Pkt) (s : List ℕ) → Spells p s → length (body_of p) + 4 ≡ length s
spelled_counts p s spells = omega (arith, ap length spells.body, length-drop 4 s, spells.digits.four)

pub whole_counts : (old new : PacketReader) (u : List ℕ) (n : ℕ) (p : Pkt) → passes_of old ≡ false → length u ≡ n → Moves old u Whole new
    → Spells p (held_of new) → (length (body_of p) + 4 ≡ open_length old + n) × (open_length new ≡ 0)
whole_counts old new u n p gathers long m spells = (
  omega (arith, held_counts old new u n gathers long m, spelled_counts p (held_of new) spells),
  shut_counts_none new m.arrives.closed,
)

-- if no packet is open after a step, the number does not exceed that before
pub shut_rises : (r : PacketReader) (n : ℕ) → is_open r ≡ false → open_length r ≤ n
shut_rises r n e = omega (arith, shut_counts_none r e)

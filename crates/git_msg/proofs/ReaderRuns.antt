-- A packet reader without an error has read some stream, so an error that it reports later is one of bytes.
use Rattle.std.proofs.Common.{arith, ◌≡◌, ◌≢◌, ℕ, ◌+◌, ◌-◌, ◌≤◌, false, List, [], ◌++◌, length, take, Option, None, Some, refl, subst, sym}
use Rattle.std.proofs.lemmas.List.{length-take-le}
use Rattle.git_pkt.specs.Faults.{IsOpen, StopsBy}
use Rattle.git_pkt.specs.Splits.{Given, NoneBegins}
use Rattle.git_pkt.specs.Machine.PacketReader.{Reads, ReadsOn, StandsAt, bytes_held, fault_of, passes_of, position_of, rest_of}
use Rattle.git_pkt.specs.Machine.ReaderState.{fault_in, held_in, passes_in}
use Rattle.git_pkt.specs.declared.fault.Fault.{Fault}
use Rattle.git_pkt.specs.declared.fault.Kind.{Kind}
use Rattle.git_pkt.specs.declared.fault.Kind.TheVariants.{OutOfMemory}
use Rattle.git_pkt.specs.declared.reader.PacketReader.{PacketReader}
use Rattle.git_pkt.specs.declared.reader.State.{State}
use Rattle.git_pkt.specs.declared.reader.State.TheVariants.{Between, Gathering, Passing, Failed}
use Rattle.git_pkt.proofs.Gathered.{none_in_gathering}
use Rattle.git_pkt.proofs.Kept.{Keeps, kept}
use Rattle.git_pkt.proofs.KnownRest.{held_rest}
use Rattle.git_pkt.proofs.Spelling.{none_begins_nothing}

-- the bytes in the hold of the open packet, for each state of the reader
record IsRest (held rest : List ℕ) (position : ℕ) : Type 0 where
  behind : length rest ≤ position
  may_go_on : IsOpen rest
  none : NoneBegins rest

rest_in : (s : State) (held : List ℕ) (field position : ℕ) → Keeps s held field position → fault_in s ≡ None → passes_in s ≡ false
    → IsRest held (take (held_in s) held) position
rest_in Between held field position k sound gathers = record {
  behind = omega arith;
  may_go_on = record { digits = λ n four below. absurd (omega (arith, below)); allowed = λ four. absurd (omega (arith, four)) };
  none = none_begins_nothing;
}
rest_in (Gathering count) held field position k sound gathers = record {
  behind = omega (arith, length-take-le count held k.within, k.behind);
  may_go_on = k.gathering.is_open;
  none = none_in_gathering (take count held) field k.gathering;
}
rest_in (Passing left) held field position k sound gathers = absurd (cc)
rest_in (Failed fault) held field position k sound gathers = absurd (cc)

-- the stream may have begun with the open packet
some_run : (r : PacketReader) → fault_of r ≡ None → passes_of r ≡ false → bytes_held r ≤ 65520
    → Reads r (position_of r - length (rest_of r)) (rest_of r) [] (rest_of r)
some_run r sound gathers fits =
    let is = rest_in r.state r.hold.items r.field r.position (kept r) sound gathers in
    record {
      position = omega (arith, is.behind);
      within = omega (arith, is.behind, r.within);
      fits = fits;
      splits = record { spelled = refl; ends = is.none };
      state =
          let end : ℕ = (position_of r - length (rest_of r)) + length (rest_of r) in
          subst (λ (o : Option Fault). StandsAt o (end - length (rest_of r)) end (rest_of r) r) (sym sound)
          (held_rest r (rest_of r) gathers refl, is.may_go_on);
    }

-- an error of bytes is not lack of memory
of_bytes : (p : ℕ) (rest : List ℕ) (end : ℕ) (kind : Kind) (offset : ℕ) → StopsBy p rest end kind offset → kind ≢ OutOfMemory
of_bytes p rest end kind offset stops is =
    let refused = subst (λ (k : Kind). StopsBy p rest end k offset) is stops in absurd refused.0

pub fault_of_bytes : (old new : PacketReader) (used : List ℕ) (given : List Given) → fault_of old ≡ None → passes_of old ≡ false → bytes_held old ≤ 65520
    → ReadsOn old used given new → (fault : Fault) → fault_of new ≡ Some fault → fault.kind ≢ OutOfMemory
fault_of_bytes old new used given sound gathers fits on fault is =
    let start : ℕ = position_of old - length (rest_of old) in
    let (later, reads) = on start (rest_of old) [] (rest_of old) (some_run old sound gathers fits) in
    let end : ℕ = start + length (rest_of old ++ used) in
    let stands = subst (λ (o : Option Fault). StandsAt o (end - length later) end later new) is reads.state in
    of_bytes (end - length later) later end fault.kind fault.offset stands.1

-- What a reader's state determines about the rest of its stream.
use Rattle.std.proofs.Common.{arith, ◌≡◌, ◌≢◌, ℕ, ◌+◌, ◌-◌, ◌<◌, true, false, List, [], ◌++◌, length, take, Option, None, refl, ap, sym, ◌∙◌, subst}
use Rattle.std.proofs.Common.{length-append}
use Rattle.std.proofs.lemmas.List.{append-nil, length-take, length-take-le}
use Rattle.git_pkt.specs.Splits.{Given}
use Rattle.git_pkt.specs.Faults.{IsOpen}
use Rattle.git_pkt.specs.Machine.ReaderState.{held_in, come_in, passed_length_in, is_open_in, passes_in}
use Rattle.git_pkt.specs.Machine.PacketReader.{Reads, StandsAt, Holds, HoldsAll, fault_of, is_open, passes_of, rest_of, open_length}
use Rattle.git_pkt.specs.declared.fault.Fault.{Fault}
use Rattle.git_pkt.specs.declared.reader.PacketReader.{PacketReader}
use Rattle.git_pkt.specs.declared.reader.State.{State}
use Rattle.git_pkt.specs.declared.reader.State.TheVariants.{Between, Gathering, Passing, Failed}
use Rattle.git_pkt.proofs.Kept.{Keeps, kept}
use Rattle.git_pkt.proofs.Spelling.{no_bytes}
use Rattle.git_pkt.proofs.ReaderMoves.{rest_of_shut, gathers_between}

-- a reader without an error holds the rest, and a packet may still come from it
pub sound_rest : (r : PacketReader) (start : ℕ) (bytes : List ℕ) (given : List Given) (rest : List ℕ) → fault_of r ≡ None
    → Reads r start bytes given rest → Holds r rest × IsOpen rest
sound_rest r start bytes given rest sound h =
    let end : ℕ = start + length bytes in
    let state : StandsAt None (end - length rest) end rest r =
    subst (λ (o : Option Fault). StandsAt o (end - length rest) end rest r) sound h.state in
    state

none_passed : (s : State) (field : ℕ) → passes_in s ≡ false → passed_length_in s field ≡ 0
none_passed Between field e = refl
none_passed (Gathering count) field e = refl
none_passed (Passing left) field e = absurd (cc)
none_passed (Failed fault) field e = refl

-- if no bytes pass, the rest is in the hold
pub gathered_rest : (r : PacketReader) (rest : List ℕ) → passes_of r ≡ false → Holds r rest → rest_of r ≡ rest
gathered_rest r rest e h =
    let none : h.passed ≡ [] = no_bytes h.passed (h.long ∙ none_passed r.state r.field e) in
    sym (append-nil (rest_of r)) ∙ ap (λ (l : List ℕ). rest_of r ++ l) (sym none) ∙ h.all

pub held_rest : (r : PacketReader) (rest : List ℕ) → passes_of r ≡ false → rest_of r ≡ rest → Holds r rest
held_rest r rest e same = record {
  passed = [];
  all = append-nil (rest_of r) ∙ same;
  long = sym (none_passed r.state r.field e);
}

-- between two packets there is no rest
pub none_between : (r : PacketReader) (rest : List ℕ) → Holds r rest → is_open r ≡ false → rest ≡ []
none_between r rest h shut = sym (gathered_rest r rest (gathers_between r shut) h) ∙ rest_of_shut r shut

-- the length of the rest, and how much of it the hold has
kept_length : (s : State) (held : List ℕ) (field position : ℕ) → Keeps s held field position
    → length (take (held_in s) held) + passed_length_in s field ≡ come_in s field
kept_length Between held field position k = refl
kept_length (Gathering count) held field position k = omega (arith, length-take-le count held k.within)
kept_length (Passing left) held field position k = omega (arith, length-take 5 held, k.five, k.fits)
kept_length (Failed fault) held field position k = refl

pub rest_length : (r : PacketReader) (rest : List ℕ) → Holds r rest → open_length r ≡ length rest
rest_length r rest h =
    omega (arith, kept_length r.state r.hold.items r.field r.position (kept r), h.long, ap length h.all, length-append (rest_of r) h.passed)

-- inside a packet there is a rest
some_come : (s : State) (held : List ℕ) (field position : ℕ) → Keeps s held field position → is_open_in s ≡ true → 0 < come_in s field
some_come Between held field position k e = absurd (cc)
some_come (Gathering count) held field position k e = omega (arith, length-take count held, k.gathering.some)
some_come (Passing left) held field position k e = omega (arith, k.fits)
some_come (Failed fault) held field position k e = absurd (cc)

pub some_inside : (r : PacketReader) (rest : List ℕ) → Holds r rest → is_open r ≡ true → rest ≢ []
some_inside r rest h begun none =
    absurd (omega (arith, some_come r.state r.hold.items r.field r.position (kept r) begun, rest_length r rest h, ap length none))

-- if no bytes pass, the hold has all bytes of it so far
pub all_is_held : (r : PacketReader) → passes_of r ≡ false → HoldsAll r
all_is_held r e = omega (arith, kept_length r.state r.hold.items r.field r.position (kept r), none_passed r.state r.field e)

pub whole_rest : (r : PacketReader) (rest : List ℕ) → HoldsAll r → Holds r rest → rest_of r ≡ rest
whole_rest r rest all h =
    let none : h.passed ≡ [] = no_bytes h.passed (omega (arith, kept_length r.state r.hold.items r.field r.position (kept r), all, h.long)) in
    sym (append-nil (rest_of r)) ∙ ap (λ (l : List ℕ). rest_of r ++ l) (sym none) ∙ h.all

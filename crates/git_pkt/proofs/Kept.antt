-- What a reader has of its stream, by its state.
use Rattle.std.proofs.Common.{arith, ◌≡◌, ℕ, List, None, ap, subst, refl}
use Rattle.git_pkt.specs.Machine.ReaderState.{IsGathered, IsPassing, fault_in, gathers_in, held_in, left_in, passes_in}
use Rattle.git_pkt.specs.declared.fault.Fault.{Fault}
use Rattle.git_pkt.specs.declared.reader.PacketReader.{PacketReader}
use Rattle.git_pkt.specs.declared.reader.State.{State}
use Rattle.git_pkt.specs.declared.reader.State.TheVariants.{Between, Gathering, Passing, Failed}

abbrev pub Keeps : State → List ℕ → ℕ → ℕ → Type 0
Keeps Between held field position = Unit {0}
Keeps (Gathering count) held field position = IsGathered count held field position
Keeps (Passing left) held field position = IsPassing left held field position
Keeps (Failed fault) held field position = Unit {0}

kept_by : (r : PacketReader) (s : State) → r.state ≡ s → Keeps s r.hold.items r.field r.position
kept_by r Between e = tt
kept_by r (Gathering count) e =
    subst (λ (s : State). IsGathered (held_in s) r.hold.items r.field r.position) e (r.gathered (ap gathers_in e))
kept_by r (Passing left) e =
    subst (λ (s : State). IsPassing (left_in s) r.hold.items r.field r.position) e (r.passing (ap passes_in e))
kept_by r (Failed fault) e = tt

pub kept : (r : PacketReader) → Keeps r.state r.hold.items r.field r.position
kept r = kept_by r r.state refl

pub kept_in : (r : PacketReader) (s : State) → r.state ≡ s → Keeps s r.hold.items r.field r.position
kept_in r s e = kept_by r s e

-- a state other than that of an error has no error
pub sound_unless : (s : State) → ((fault : Fault) → s ≡ Failed fault → ⊥) → fault_in s ≡ None
sound_unless Between h = refl
sound_unless (Gathering count) h = refl
sound_unless (Passing left) h = refl
sound_unless (Failed fault) h = absurd (h fault refl)

pub sound_gathering : (s : State) → held_in s ≡ 5 → fault_in s ≡ None
sound_gathering Between e = refl
sound_gathering (Gathering count) e = refl
sound_gathering (Passing left) e = refl
sound_gathering (Failed fault) e = absurd (omega (arith, e))

-- The result of a reader's step, from the results of its parts.
use Rattle.std.proofs.Common.{take, arith, ◌≡◌, ℕ, ◌+◌, ◌-◌, ◌≤◌, ◌<◌, List, [], ◌∷◌, ◌++◌, length, false}
use Rattle.std.proofs.Common.{ap, sym, ◌∙◌, refl, subst, append_assoc, length-append}
use Rattle.std.proofs.lemmas.List.{append-nil, length-take, take_all}
use Rattle.git_pkt.specs.Machine.ReaderState.{held_in, is_open_in, passes_in}
use Rattle.git_pkt.specs.Machine.PacketReader.{position_of, is_open, passes_of, held_of, rest_of}
use Rattle.git_pkt.specs.declared.reader.State.{State}
use Rattle.git_pkt.specs.declared.reader.State.TheVariants.{Between, Gathering, Passing, Failed}
use Rattle.git_pkt.specs.Machine.PacketReaderSteps.{Moves, Arrives, IsStopped}
use Rattle.git_pkt.specs.declared.fault.Kind.{Kind}
use Rattle.git_pkt.specs.declared.reader.PacketReader.{PacketReader}
use Rattle.git_pkt.specs.declared.progress.Progress.{Progress}
use Rattle.git_pkt.specs.declared.progress.Progress.TheVariants.{Open, Whole}
use Rattle.git_pkt.specs.declared.fault.Kind.TheVariants.{StreamTooLong}
use Rattle.git_pkt.specs.Packets.{Pkt, Spells}
use Rattle.git_pkt.specs.Splits.{NoneBegins}
use Rattle.git_pkt.specs.Faults.{IsOpen, last_position}
use Rattle.git_pkt.proofs.Kept.{Keeps, kept}
use Rattle.git_pkt.proofs.Spelling.{none_begins_nothing}
use Rattle.git_pkt.proofs.Gathered.{EndsWith, open_nothing, none_in_gathering}

held_shut : (s : State) → is_open_in s ≡ false → held_in s ≡ 0
held_shut Between e = refl
held_shut (Gathering count) e = absurd (cc)
held_shut (Passing left) e = absurd (cc)
held_shut (Failed fault) e = refl

-- between packets the hold has no byte of one
pub rest_of_shut : (r : PacketReader) → is_open r ≡ false → rest_of r ≡ []
rest_of_shut r e = ap (λ (n : ℕ). take n (held_of r)) (held_shut r.state e)

passes_shut : (s : State) → is_open_in s ≡ false → passes_in s ≡ false
passes_shut Between e = refl
passes_shut (Gathering count) e = refl
passes_shut (Passing left) e = absurd (cc)
passes_shut (Failed fault) e = refl

pub gathers_between : (r : PacketReader) → is_open r ≡ false → passes_of r ≡ false
gathers_between r e = passes_shut r.state e

pub moves_from : (old new : PacketReader) (before u : List ℕ) (progress : Progress)
    → rest_of old ≡ before → position_of new ≡ position_of old + length u → Arrives progress (before ++ u) new → Moves old u progress new
moves_from old new before u progress e at arrives = record {
  position = at;
  arrives = subst (λ (r : List ℕ). Arrives progress (r ++ u) new) (sym e) arrives;
}

-- a step that ends the reading
pub stopped_after : (old mid new : PacketReader) (before u : List ℕ) (kind : Kind) (offset : ℕ) (progress : Progress)
    → rest_of old ≡ before → IsStopped mid kind offset progress new → position_of mid ≡ position_of old + length u
    → EndsWith (before ++ u) kind (position_of mid - length (before ++ u)) (position_of mid) offset → Moves old u progress new
stopped_after old mid new before u kind offset progress e s moved ends =
    rw s.progress_is (moves_from old new before u _ e (s.position ∙ moved) (record {
      announced = s.announced;
      closed = s.closed;
      none = ends.none;
      by = rw s.position ends.by;
    }))

-- the same for a reader without an open packet
pub stopped_between : (old mid new : PacketReader) (u : List ℕ) (kind : Kind) (offset : ℕ) (progress : Progress)
    → is_open old ≡ false → IsStopped mid kind offset progress new → position_of mid ≡ position_of old + length u
    → EndsWith u kind (position_of old) (position_of old + length u) offset → Moves old u progress new
stopped_between old mid new u kind offset progress shut s moved ends =
    let start : position_of mid - length u ≡ position_of old = omega arith in
    stopped_after old mid new [] u kind offset progress (rest_of_shut old shut) s moved (rw (start, moved) ends)

-- two steps, one after the other
pub moves_on : (a b c : PacketReader) (u v : List ℕ) (progress : Progress) → Moves a u Open b → Moves b v progress c → Moves a (u ++ v) progress c
moves_on a b c u v progress h k = record {
  position = omega (arith, h.position, k.position, length-append u v);
  arrives =
      let same : rest_of b ++ v ≡ rest_of a ++ (u ++ v) =
      ap (λ (r : List ℕ). r ++ v) h.arrives.rest_is ∙ append_assoc (rest_of a) u v in
      subst (λ (r : List ℕ). Arrives progress r c) same k.arrives;
}

-- the bytes in the hold of an open packet are open, and are no whole packet yet
kept_is_open : (s : State) (held : List ℕ) (field position : ℕ) → Keeps s held field position → IsOpen (take (held_in s) held)
kept_is_open Between held field position k = open_nothing
kept_is_open (Gathering count) held field position k = k.gathering.is_open
kept_is_open (Passing left) held field position k =
    subst (λ (l : List ℕ). IsOpen l) (sym (take_all 5 held (omega (arith, k.five)))) k.gathering.is_open
kept_is_open (Failed fault) held field position k = open_nothing

kept_is_partial : (s : State) (held : List ℕ) (field position : ℕ) → Keeps s held field position → NoneBegins (take (held_in s) held)
kept_is_partial Between held field position k = none_begins_nothing
kept_is_partial (Gathering count) held field position k = none_in_gathering (take count held) field k.gathering
kept_is_partial (Passing left) held field position k =
    subst (λ (l : List ℕ). NoneBegins l) (sym (take_all 5 held (omega (arith, k.five)))) (none_in_gathering held field k.gathering)
kept_is_partial (Failed fault) held field position k = none_begins_nothing

pub rest_is_open : (r : PacketReader) → IsOpen (rest_of r)
rest_is_open r = kept_is_open r.state r.hold.items r.field r.position (kept r)

pub rest_is_partial : (r : PacketReader) → NoneBegins (rest_of r)
rest_is_partial r = kept_is_partial r.state r.hold.items r.field r.position (kept r)

-- the reader is at the stream's last position, and gets one more byte
pub stopped_at_last : (old mid new : PacketReader) (u : List ℕ) (progress : Progress)
    → Moves old u Open mid → IsStopped mid StreamTooLong last_position progress new → position_of mid ≡ last_position → Moves old u progress new
stopped_at_last old mid new u progress h s last =
    let rest = h.arrives.rest_is in
    stopped_after old mid new (rest_of old) u StreamTooLong last_position progress refl s h.position (record {
      none = subst (λ (r : List ℕ). NoneBegins r) rest (rest_is_partial mid);
      by = (subst (λ (r : List ℕ). IsOpen r) rest (rest_is_open mid), last, refl);
    })

-- a packet that came whole used bytes
pub whole_uses : (old new : PacketReader) (u : List ℕ) (p : Pkt) → Moves old u Whole new → Spells p (held_of new) → 0 < length u
whole_uses old new [] p m spells =
    absurd (rest_is_partial old p (rest_of old) [] (sym (append-nil (rest_of old)))
    (subst (λ (l : List ℕ). Spells p l) (m.arrives.held ∙ append-nil (rest_of old)) spells))
whole_uses old new (b ∷ u) p m spells = omega arith

-- the packet begins at or after the stream's start
kept_behind : (s : State) (held : List ℕ) (field position : ℕ) → Keeps s held field position → length (take (held_in s) held) ≤ position
kept_behind Between held field position k = omega arith
kept_behind (Gathering count) held field position k = omega (arith, length-take count held, k.behind)
kept_behind (Passing left) held field position k = omega (arith, length-take 5 held, k.five, k.fits, k.behind)
kept_behind (Failed fault) held field position k = omega arith

pub whole_behind : (old new : PacketReader) (u : List ℕ) → Moves old u Whole new → length (held_of new) ≤ position_of new
whole_behind old new u m =
    let begins : length (rest_of old) ≤ old.position = kept_behind old.state old.hold.items old.field old.position (kept old) in
    omega (arith, begins, m.position, ap length m.arrives.held, length-append (rest_of old) u)

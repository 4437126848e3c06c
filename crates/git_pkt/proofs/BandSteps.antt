-- The result of a step in a section of side bands, from the results of its parts.
use Rattle.std.proofs.Common.{arith, ◌≡◌, inl, inr, ℕ, ◌+◌, ◌-◌, ◌<◌, ◌≤◌, true, false, List, [], ◌∷◌, ◌++◌, length, take, drop, map}
use Rattle.std.proofs.Common.{None, is_some, ap, sym, ◌∙◌, refl, subst, append_assoc, length-append}
use Rattle.std.proofs.lemmas.Bool.{cases_lt}
use Rattle.std.proofs.lemmas.List.{append-nil, length-take-le}
use Rattle.std.proofs.lemmas.Grind.{common_steps}
use Rattle.std.proofs.Math.Seq.{take-append-add}
use Rattle.git_pkt.specs.Passed.{OnBand, band_in, begins_band, on, passed_by_rest}
use Rattle.git_pkt.specs.Splits.{Given}
use Rattle.git_pkt.specs.Machine.HeldPacket.{IsWhole}
use Rattle.git_pkt.specs.Machine.ReaderState.{held_in, passes_in}
use Rattle.git_pkt.specs.Machine.PacketReader.{bytes_held, fault_of, held_of, open_length, passes_of, position_of, rest_of}
use Rattle.git_pkt.specs.Machine.PacketReaderSteps.{Moves}
use Rattle.git_pkt.specs.Machine.BandReader.{BandMoves, Comes, IsHeldWhole, IsPart, MayPass, ReadsBandsOn}
use Rattle.git_pkt.specs.declared.fault.Fault.{Fault}
use Rattle.git_pkt.specs.declared.progress.BandProgress.{BandProgress}
use Rattle.git_pkt.specs.declared.progress.BandProgress.TheVariants.{Open as OpenYet, Empty, Part, Whole as WholePacket, Failed as FailedStep}
use Rattle.git_pkt.specs.declared.reader.PacketReader.{PacketReader}
use Rattle.git_pkt.specs.declared.progress.Progress.TheVariants.{Open, Whole, Failed}
use Rattle.git_pkt.specs.declared.reader.State.{State}
use Rattle.git_pkt.specs.declared.reader.State.TheVariants.{Between, Gathering, Passing, Failed as FailedState}
use Rattle.git_pkt.proofs.Kept.{Keeps, kept}
use Rattle.git_pkt.proofs.Spelling.{no_bytes}
use Rattle.git_pkt.proofs.Completions.{whole_spells}
use Rattle.git_pkt.proofs.ReaderMoves.{whole_behind, whole_uses}
use Rattle.git_pkt.proofs.OpenLengths.{held_counts, open_counts}
use Rattle.git_pkt.proofs.BandCarries.{band_longer, band_of_take, banded_body, bands_empty, bands_failed, bands_on, bands_open, bands_whole}
use Rattle.git_pkt.proofs.BandCarries.{passed_body, passes_short, passes_unbanded, unbanded_short}

-- a step after bytes that gave nothing
module _ (a b c : PacketReader) (front chunk whole : List ℕ) (used total : ℕ) (cut : front ++ chunk ≡ whole) (sum : length front + used ≡ total)
    (risen : open_length b ≤ open_length a + length front) (first : ReadsBandsOn a front [] [] b) where
  both : take total whole ≡ front ++ take used chunk
  both =
      ap (λ (n : ℕ). take n whole) (sym sum)
      ∙ ap (λ (l : List ℕ). take (length front + used) l) (sym cut)
      ∙ take-append-add front chunk used

  long : length whole ≡ length front + length chunk
  long = ap length (sym cut) ∙ length-append front chunk

  goes_after : (announced : List Given) (parts : List OnBand) → ReadsBandsOn b (take used chunk) announced parts c
      → ReadsBandsOn a (take total whole) announced parts c
  goes_after announced parts next =
      subst (λ (l : List ℕ). ReadsBandsOn a l announced parts c) (sym both) (bands_on a b c front (take used chunk) announced [] parts first next)

  part_after : (bytes : List ℕ) → IsPart bytes used chunk c → IsPart bytes total whole c
  part_after bytes p = record {
    uses = omega (arith, p.uses, sum);
    some = p.some;
    fits = p.fits;
    front = front ++ p.front;
    lies = both ∙ ap (λ (l : List ℕ). front ++ l) p.lies ∙ sym (append_assoc front p.front bytes);
    no_fault = p.no_fault;
    all = λ opened. elim (p.all opened) [ inl all ↦ inl (omega (arith, all, sum, long)) | inr last ↦ inr last ];
    few = p.few;
  }

  comes_after : (progress : BandProgress) → Comes progress b chunk used c → Comes progress a whole total c
  comes_after OpenYet h = record { all = omega (arith, h.all, sum, long); no_fault = h.no_fault; goes = goes_after [] [] h.goes }
  comes_after Empty h = record { some = omega (arith, h.some, sum); no_fault = h.no_fault; goes = goes_after [] [] h.goes }
  comes_after (Part part) h = record {
    bytes = h.bytes;
    not_fatal = h.not_fatal;
    long = h.long;
    is_part = part_after h.bytes h.is_part;
    goes = goes_after [] (map (on part.band) h.bytes) h.goes;
  }
  comes_after WholePacket h = record {
    some = omega (arith, h.some, sum);
    no_fault = h.no_fault;
    closed = h.closed;
    whole = h.whole;
    on_no_band = h.on_no_band;
    behind = h.behind;
    counts = omega (arith, h.counts, risen, sum);
    goes = λ p offset spells at. goes_after ((record { packet = p; offset = offset }) ∷ []) [] (h.goes p offset spells at);
  }
  comes_after (FailedStep f) h = record {
    announced = h.announced;
    shown = record { not_the_end = h.shown.not_the_end; one_more = λ e. omega (arith, h.shown.one_more e, sum, long) };
    goes = goes_after [] [] h.goes;
  }

  pub bands_after : (progress : BandProgress) → BandMoves b chunk used progress c → BandMoves a whole total progress c
  bands_after progress h = record { passes = h.passes; rises = omega (arith, h.rises, risen, sum); comes = comes_after progress h.comes }

-- the hold has at least the bytes of the open packet that are counted there
kept_within : (s : State) (held : List ℕ) (field position : ℕ) → Keeps s held field position → held_in s ≤ length held
kept_within Between held field position k = omega arith
kept_within (Gathering count) held field position k = k.within
kept_within (Passing left) held field position k = omega (arith, k.five)
kept_within (FailedState fault) held field position k = omega arith

pub rest_long : (r : PacketReader) → length (rest_of r) ≡ held_in r.state
rest_long r = length-take-le (held_in r.state) (held_of r) (kept_within r.state r.hold.items r.field r.position (kept r))

pub gathers_unless : (s : State) → ((left : ℕ) → s ≡ Passing left → ⊥) → passes_in s ≡ false
gathers_unless Between h = refl
gathers_unless (Gathering count) h = refl
gathers_unless (Passing left) h = absurd (h left refl)
gathers_unless (FailedState fault) h = refl

-- the open packet's band is that of the bytes in the hold
pub hold_band : (r : PacketReader) → 5 ≤ held_in r.state → band_in (drop 4 (rest_of r)) ≡ band_in (drop 4 (held_of r))
hold_band r five = band_of_take (held_in r.state) (held_of r) five (kept_within r.state r.hold.items r.field r.position (kept r))

-- bytes up to the first five, or none after them
pub first_five : (l u : List ℕ) → begins_band (drop 4 l) ≡ false → length u ≤ 5 - length l → passed_by_rest (l ++ u) ≡ []
first_five l u e few = elim (cases_lt 5 (length l + length u)) [
  | inl more ↦
      let none : u ≡ [] = no_bytes u (omega arith) in
      ap (λ (x : List ℕ). passed_by_rest (l ++ x)) none ∙ ap passed_by_rest (append-nil l) ∙ passes_unbanded l e
  | inr short ↦ passes_short (l ++ u) (omega (arith, length-append l u))
]

unbanded_longer : (l u : List ℕ) → 5 ≤ length l → begins_band (drop 4 l) ≡ false → begins_band (drop 4 (l ++ u)) ≡ false
unbanded_longer l u five e = ap is_some (band_longer l u five) ∙ e

-- a packet that came whole is returned or skipped
module _ (old new : PacketReader) (u : List ℕ) (fits : bytes_held new ≤ 65520) (sound : fault_of old ≡ None) (gathers : passes_of old ≡ false)
    (unbanded : begins_band (drop 4 (rest_of old)) ≡ false) where
  none_before : passed_by_rest (rest_of old) ≡ []
  none_before = passes_unbanded (rest_of old) unbanded

  whole_held : Moves old u Whole new → IsWhole (held_of new) new.field
  whole_held m = subst (λ (l : List ℕ). IsWhole l new.field) (sym m.arrives.held) m.arrives.whole

  some_used : Moves old u Whole new → 0 < length u
  some_used m =
      let whole = whole_spells (held_of new) new.field (whole_held m) in
      whole_uses old new u whole.0 m whole.1

  pub whole_comes : (chunk : List ℕ) (used : ℕ) → u ≡ take used chunk → used ≤ length chunk → Moves old u Whole new
      → begins_band (drop 4 (held_of new)) ≡ false → IsHeldWhole old chunk used new
  whole_comes chunk used e within m free = record {
    some = omega (arith, some_used m, ap length e, length-take-le used chunk within);
    no_fault = m.arrives.no_fault;
    closed = m.arrives.closed;
    whole = whole_held m;
    on_no_band = free;
    behind = whole_behind old new u m;
    counts = omega (arith, held_counts old new u used gathers (ap length e ∙ length-take-le used chunk within) m);
    goes = λ p offset spells at.
        let g : Given = record { packet = p; offset = offset } in
        subst (λ (l : List ℕ). ReadsBandsOn old l (g ∷ []) [] new) e
        (bands_whole old new u g fits sound gathers none_before m spells at (banded_body p (held_of new) spells ∙ free));
  }

  pub empty_goes : Moves old u Whole new → begins_band (drop 4 (held_of new)) ≡ true → length u ≤ 5 - length (rest_of old) → ReadsBandsOn old u [] [] new
  empty_goes m banded few =
      let whole = whole_spells (held_of new) new.field (whole_held m) in
      let behind = whole_behind old new u m in
      let g : Given = record { packet = whole.0; offset = position_of new - length (held_of new) } in
      let none = passed_body whole.0 (held_of new) whole.1 ∙ ap passed_by_rest m.arrives.held ∙ first_five (rest_of old) u unbanded few in
      bands_empty old new u g fits sound gathers none_before m whole.1 (omega (arith, behind)) (banded_body whole.0 (held_of new) whole.1 ∙ banded) none

  pub empty_uses : Moves old u Whole new → 0 < length u
  empty_uses m = some_used m

  pub open_rises : (n : ℕ) → length u ≡ n → Moves old u Open new → open_length new ≤ open_length old + n
  open_rises n long m = omega (arith, open_counts old new u n gathers long m)

  pub open_goes : Moves old u Open new → passed_by_rest (rest_of old ++ u) ≡ [] → ReadsBandsOn old u [] [] new
  open_goes m none = bands_open old new u fits sound gathers none_before none m

  pub failed_goes : (f : Fault) → Moves old u (Failed f) new → passed_by_rest (rest_of old ++ u) ≡ [] → ReadsBandsOn old u [] [] new
  failed_goes f m none = bands_failed old new u f fits sound gathers none_before none m

  -- if nothing passed of the first five bytes, nothing passes of the later ones
  pub none_longer : 5 ≤ length (rest_of old) → passed_by_rest (rest_of old ++ u) ≡ []
  none_longer five = passes_unbanded (rest_of old ++ u) (unbanded_longer (rest_of old) u five unbanded)

  pub whole_free : 5 ≤ length (rest_of old) → Moves old u Whole new → begins_band (drop 4 (held_of new)) ≡ false
  whole_free five m = ap (λ (l : List ℕ). begins_band (drop 4 l)) m.arrives.held ∙ unbanded_longer (rest_of old) u five unbanded

  pub open_free : 5 ≤ length (rest_of old) → Moves old u Open new → MayPass new
  open_free five m = λ now.
      ap (λ (l : List ℕ). begins_band (drop 4 l)) m.arrives.rest_is ∙ unbanded_longer (rest_of old) u five unbanded

  pub short_free : length (rest_of old ++ u) < 5 → Moves old u Open new → MayPass new
  short_free short m = λ now.
      ap (λ (l : List ℕ). begins_band (drop 4 l)) m.arrives.rest_is ∙ unbanded_short (rest_of old ++ u) short

pub take_front : (used front : ℕ) (chunk : List ℕ) → used ≤ length (take front chunk) → take used (take front chunk) ≡ take used chunk
take_front used front chunk within = grind (arith, common_steps)

-- Bytes that pass keep the reader's relation to the stream.
use Rattle.std.proofs.Common.{arith, ◌≡◌, ℕ, ◌+◌, ◌-◌, ◌<◌, ◌≤◌, true, false, List, [], ◌∷◌, ◌++◌, length, take, drop, map}
use Rattle.std.proofs.Common.{Option, Some, None, is_some, ap, sym, ◌∙◌, refl, subst, append_assoc, length-append, length-drop}
use Rattle.std.proofs.lemmas.List.{append-nil, length-take-le, map-append, take-append-drop, take_all}
use Rattle.git_pkt.specs.Packets.{payload, Spells}
use Rattle.git_pkt.specs.Passed.{OnBand, band_in, begins_band, on, passed_by_rest}
use Rattle.git_pkt.specs.Splits.{Given, NoneBegins}
use Rattle.git_pkt.specs.Faults.{IsOpen, last_position}
use Rattle.git_pkt.specs.Machine.HeldPacket.{IsGathering, IsWhole}
use Rattle.git_pkt.specs.Machine.ReaderState.{fault_in, held_in, is_open_in, passed_length_in, passes_in}
use Rattle.git_pkt.specs.Machine.PacketReader.{Holds, Reads, ShownByFeed, StandsAt, fault_of, held_of, is_open, passes_of, position_of, rest_of}
use Rattle.git_pkt.specs.Machine.PacketReaderSteps.{IsStopped}
use Rattle.git_pkt.specs.Machine.BandReader.{BandMoves, ReadsBandsOn}
use Rattle.git_pkt.specs.declared.band.Band.{Band}
use Rattle.git_pkt.specs.declared.fault.Fault.{Fault}
use Rattle.git_pkt.specs.declared.fault.Kind.{Kind}
use Rattle.git_pkt.specs.declared.fault.Kind.TheVariants.{StreamTooLong}
use Rattle.git_pkt.specs.declared.reader.PacketReader.{PacketReader}
use Rattle.git_pkt.specs.declared.progress.BandProgress.TheVariants.{Part}
use Rattle.git_pkt.specs.declared.progress.Progress.{Progress}
use Rattle.git_pkt.specs.declared.progress.Progress.TheVariants.{Open, Whole, Failed}
use Rattle.git_pkt.specs.declared.reader.State.{State}
use Rattle.git_pkt.specs.declared.reader.State.TheVariants.{Between, Passing}
use Rattle.git_pkt.proofs.Kept.{kept_in}
use Rattle.git_pkt.proofs.Spelling.{none_begins_nothing}
use Rattle.git_pkt.proofs.Gathered.{gathering_more, gathering_whole, none_in_gathering}
use Rattle.git_pkt.proofs.Streams.{spells_all_length, spells_all_more, spells_all_whole}
use Rattle.git_pkt.proofs.KnownRest.{none_between, sound_rest}
use Rattle.git_pkt.proofs.ReaderMoves.{gathers_between, rest_of_shut}
use Rattle.git_pkt.proofs.OpenLengths.{shut_rises}
use Rattle.git_pkt.proofs.Carries.{stands_open, was_held}
use Rattle.git_pkt.proofs.BandCarries.{band_longer, band_of_take, may_pass_shut, not_announced_banded, passed_after_five, never_fatal}

abbrev fault_in_progress : Progress → Option Fault
fault_in_progress Open = None
fault_in_progress Whole = None
fault_in_progress (Failed f) = Some f

abbrev kind_in_progress : Progress → Option Kind
kind_in_progress Open = None
kind_in_progress Whole = None
kind_in_progress (Failed f) = Some f.kind

-- the hold of a packet whose bytes pass has its first five bytes
rest_of_passing : (r : PacketReader) (left : ℕ) → r.state ≡ Passing left → rest_of r ≡ held_of r
rest_of_passing r left e =
    ap (λ (s : State). take (held_in s) (held_of r)) e ∙ take_all 5 (held_of r) (omega (arith, (kept_in r (Passing left) e).five))

-- the rest is what the hold has, followed by the bytes that passed
record PassingRest (old : PacketReader) (left : ℕ) (rest : List ℕ) : Type 0 where
  pub passed : List ℕ
  pub all : held_of old ++ passed ≡ rest
  pub long : length passed + left + 5 ≡ old.field
  pub still_open : IsOpen rest

passing_rest : (old : PacketReader) (left start : ℕ) (bytes : List ℕ) (given : List Given) (rest : List ℕ) → old.state ≡ Passing left
    → Reads old start bytes given rest → PassingRest old left rest
passing_rest old left start bytes given rest e r =
    let state = sound_rest old start bytes given rest (ap fault_in e) r in
    let kept = kept_in old (Passing left) e in
    record {
      passed = state.0.passed;
      all = ap (λ (l : List ℕ). l ++ state.0.passed) (sym (rest_of_passing old left e)) ∙ state.0.all;
      long = omega (arith, state.0.long, ap (λ (s : State). passed_length_in s old.field) e, kept.fits);
      still_open = state.1;
    }

-- bytes of the open packet passed, and the hold is unchanged
pub record PassedOn (old : PacketReader) (left : ℕ) (u : List ℕ) (band : Band) (new : PacketReader) : Type 0 where
  pub was : old.state ≡ Passing left
  pub hold : held_of new ≡ held_of old
  pub field : new.field ≡ old.field
  pub position : position_of new ≡ position_of old + length u
  pub band_is : band_in (drop 4 (held_of old)) ≡ Some band

-- the bytes of the rest that passed, and those that pass with more bytes
passes_more : (held passed u rest : List ℕ) (band : Band) → length held ≡ 5 → band_in (drop 4 held) ≡ Some band → held ++ passed ≡ rest
    → passed_by_rest (rest ++ u) ≡ passed_by_rest rest ++ map (on band) u
passes_more held passed u rest band five e all =
    ap (λ (l : List ℕ). passed_by_rest (l ++ u)) (sym all)
    ∙ ap passed_by_rest (append_assoc held passed u)
    ∙ passed_after_five held (passed ++ u) band five e
    ∙ map-append (on band) passed u
    ∙ ap (λ (l : List OnBand). l ++ map (on band) u) (sym (passed_after_five held passed band five e) ∙ ap passed_by_rest all)

-- more bytes are still to come
pub bands_pass_open : (old new : PacketReader) (left n : ℕ) (u : List ℕ) (band : Band) → PassedOn old left u band new → new.state ≡ Passing n
    → 0 < n → n + length u ≡ left → ReadsBandsOn old u [] (map (on band) u) new
bands_pass_open old new left n u band b now some sum start bytes given rest r =
    let kept = kept_in old (Passing left) b.was in
    let p = passing_rest old left start bytes given rest b.was r in
    let gathering : IsGathering (held_of old ++ (p.passed ++ u)) old.field =
    gathering_more (held_of old) (p.passed ++ u) old.field kept.gathering (omega (arith, kept.five))
    (omega (arith, kept.five, length-append (held_of old) (p.passed ++ u), length-append p.passed u, p.long)) in
    let same : held_of old ++ (p.passed ++ u) ≡ rest ++ u =
    sym (append_assoc (held_of old) p.passed u) ∙ ap (λ (l : List ℕ). l ++ u) p.all in
    let holds : Holds new (rest ++ u) = record {
      passed = p.passed ++ u;
      all = ap (λ (l : List ℕ). l ++ (p.passed ++ u)) (rest_of_passing new n now ∙ b.hold) ∙ same;
      long = omega (arith, length-append p.passed u, p.long, ap (λ (s : State). passed_length_in s new.field) now, b.field);
    } in
    record {
      passed = [];
      later = rest ++ u;
      reads = record {
        position = omega (arith, b.position, r.position, length-append bytes u);
        within = omega (arith, b.position, r.position, length-append bytes u, new.within);
        fits = omega (arith, ap length b.hold, kept.five);
        splits = record {
          spelled = rw (append-nil given) (spells_all_more start bytes given rest u r.splits.spelled);
          ends = subst (λ (l : List ℕ). NoneBegins l) same (none_in_gathering _ old.field gathering);
        };
        state =
            subst (λ (o : Option Fault). StandsAt o (start + length (bytes ++ u) - length (rest ++ u)) (start + length (bytes ++ u)) (rest ++ u) new)
            (sym (ap fault_in now)) (holds, subst (λ (l : List ℕ). IsOpen l) same gathering.is_open);
      };
      on_bands = refl;
      free = refl;
      held = λ _ is. absurd (cc);
      joins = passes_more (held_of old) p.passed u rest band kept.five b.band_is p.all;
    }

-- the four digits of a payload, with as many bytes in all as their number, spell it
pub payload_spells : (s : List ℕ) (field : ℕ) → IsWhole s field → 4 ≤ field → Spells (payload (drop 4 s)) s
payload_spells s field h four = record {
  digits = h.digits;
  field = omega (arith, h.number, h.long, length-drop 4 s);
  body = refl;
  fits = omega (arith, h.allowed.fits, h.long, length-drop 4 s);
}

-- the last of the bytes came
pub bands_pass_whole : (old new : PacketReader) (left : ℕ) (u : List ℕ) (band : Band) → PassedOn old left u band new → new.state ≡ Between
    → length u ≡ left → ReadsBandsOn old u [] (map (on band) u) new
bands_pass_whole old new left u band b now all start bytes given rest r =
    let kept = kept_in old (Passing left) b.was in
    let p = passing_rest old left start bytes given rest b.was r in
    let whole : IsWhole (held_of old ++ (p.passed ++ u)) old.field =
    gathering_whole (held_of old) (p.passed ++ u) old.field kept.gathering (omega (arith, kept.five))
    (omega (arith, kept.five, length-append (held_of old) (p.passed ++ u), length-append p.passed u, p.long)) in
    let same : held_of old ++ (p.passed ++ u) ≡ rest ++ u =
    sym (append_assoc (held_of old) p.passed u) ∙ ap (λ (l : List ℕ). l ++ u) p.all in
    let spelled : Spells (payload (drop 4 (rest ++ u))) (rest ++ u) =
    payload_spells (rest ++ u) old.field (subst (λ (l : List ℕ). IsWhole l old.field) same whole) (omega (arith, kept.fits)) in
    let g : Given = record { packet = payload (drop 4 (rest ++ u)); offset = start + length (bytes ++ u) - length (rest ++ u) } in
    let longer = spells_all_more start bytes given rest u r.splits.spelled in
    let banded : begins_band (drop 4 (rest ++ u)) ≡ true =
    ap (λ (l : List ℕ). begins_band (drop 4 l)) (sym same)
    ∙ ap is_some (band_longer (held_of old) (p.passed ++ u) (omega (arith, kept.five)) ∙ b.band_is) in
    record {
      passed = g ∷ [];
      later = [];
      reads = record {
        position = omega (arith, b.position, r.position, length-append bytes u);
        within = omega (arith, b.position, r.position, length-append bytes u, new.within);
        fits = omega (arith, ap length b.hold, kept.five);
        splits = record {
          spelled = spells_all_whole start (bytes ++ u) given (rest ++ u) g longer spelled
              (omega (arith, spells_all_length start (bytes ++ u) given (rest ++ u) longer));
          ends = none_begins_nothing;
        };
        state = stands_open new _ _ [] (ap fault_in now) (ap passes_in now) (ap (λ (s : State). take (held_in s) (held_of new)) now);
      };
      on_bands = not_announced_banded g banded;
      free = refl;
      held = λ _ is. absurd (cc);
      joins =
          append-nil (passed_by_rest (rest ++ u) ++ [])
          ∙ append-nil (passed_by_rest (rest ++ u))
          ∙ passes_more (held_of old) p.passed u rest band kept.five b.band_is p.all;
    }

-- no byte of the stream is used
unchanged : (new : PacketReader) (start : ℕ) (bytes : List ℕ) (given : List Given) (rest : List ℕ) → Reads new start bytes given rest
    → Reads new start (bytes ++ []) (given ++ []) rest
unchanged new start bytes given rest r =
    subst (λ (l : List ℕ). Reads new start l (given ++ []) rest) (sym (append-nil bytes))
    (subst (λ (gs : List Given). Reads new start bytes gs rest) (sym (append-nil given)) r)

-- the hold gets only the five bytes that it has
pub bands_begin : (old new : PacketReader) (left : ℕ) → fault_of old ≡ None → passes_of old ≡ false → held_in old.state ≡ 5
    → held_of new ≡ take 5 (held_of old) → new.field ≡ old.field → position_of new ≡ position_of old → new.state ≡ Passing left
    → left ≡ old.field - 5 → ReadsBandsOn old [] [] [] new
bands_begin old new left sound gathers five hold field position now is start bytes given rest r =
    let kept = kept_in new (Passing left) now in
    let state = sound_rest old start bytes given rest sound r in
    let held : held_of new ≡ rest =
    hold ∙ ap (λ (n : ℕ). take n (held_of old)) (sym five) ∙ was_held old start bytes given rest sound gathers r in
    let holds : Holds new rest = record {
      passed = [];
      all = append-nil (rest_of new) ∙ rest_of_passing new left now ∙ held;
      long = omega (arith, ap (λ (s : State). passed_length_in s new.field) now, field, is, kept.fits);
    } in
    record {
      passed = [];
      later = rest;
      reads = unchanged new start bytes given rest (record {
        position = position ∙ r.position;
        within = r.within;
        fits = omega (arith, kept.five);
        splits = r.splits;
        state =
            subst (λ (o : Option Fault). StandsAt o (start + length bytes - length rest) (start + length bytes) rest new)
            (sym (ap fault_in now)) (holds, state.1);
      });
      on_bands = refl;
      free = refl;
      held = λ _ is. absurd (cc);
      joins = sym (append-nil (passed_by_rest rest));
    }

-- the stream is at its last position
pub bands_stop : (old new : PacketReader) (left : ℕ) (progress : Progress) → old.state ≡ Passing left
    → IsStopped old StreamTooLong last_position progress new → held_of new ≡ held_of old → position_of old ≡ last_position
    → ReadsBandsOn old [] [] [] new
bands_stop old new left progress was s same last start bytes given rest r = record {
  passed = [];
  later = rest;
  reads = unchanged new start bytes given rest (record {
    position = s.position ∙ r.position;
    within = r.within;
    fits = omega (arith, ap length same, r.fits);
    splits = r.splits;
    state =
        subst (λ (o : Option Fault). StandsAt o (start + length bytes - length rest) (start + length bytes) rest new) (sym s.announced)
        (s.closed, ((passing_rest old left start bytes given rest was r).still_open, sym r.position ∙ last, refl));
  });
  on_bands = refl;
  free = refl;
  held = λ _ is. absurd (cc);
  joins = sym (append-nil (passed_by_rest rest));
}

-- the error that it ended with
pub stopped_fault : (old new : PacketReader) (kind : Kind) (offset : ℕ) (f : Fault) → IsStopped old kind offset (Failed f) new
    → fault_of new ≡ Some f
stopped_fault old new kind offset f s = s.announced ∙ ap fault_in_progress (sym s.progress_is)

pub shown_at_last : (old new : PacketReader) (offset : ℕ) (f : Fault) (used : ℕ) (chunk : List ℕ)
    → IsStopped old StreamTooLong offset (Failed f) new → used < length chunk → ShownByFeed f used chunk
shown_at_last old new offset f used chunk s more =
    let is : Some StreamTooLong ≡ Some f.kind = ap kind_in_progress (sym s.progress_is) in
    record { not_the_end = λ e. absurd (cc); one_more = λ _. more }

-- a packet came whole in the chunk, between two packets
pub bands_at_once : (old new : PacketReader) (u : List ℕ) (field : ℕ) (band : Band) → fault_of old ≡ None → is_open old ≡ false
    → IsWhole u field → 5 ≤ field → band_in (drop 4 u) ≡ Some band → new.state ≡ old.state → position_of new ≡ position_of old + length u
    → length (held_of new) ≤ 5 → ReadsBandsOn old u [] (map (on band) (drop 5 u)) new
bands_at_once old new u field band sound shut whole five e same at few start bytes given rest r =
    let none : rest ≡ [] = none_between old rest (sound_rest old start bytes given rest sound r).0 shut in
    let was : Reads old start bytes given [] = subst (λ (l : List ℕ). Reads old start bytes given l) none r in
    let spelled = payload_spells u field whole (omega arith) in
    let g : Given = record { packet = payload (drop 4 u); offset = position_of old } in
    let long : 5 ≤ length u = omega (arith, whole.long) in
    let front : band_in (drop 4 (take 5 u)) ≡ Some band = band_of_take 5 u (omega arith) long ∙ e in
    let passes : passed_by_rest u ≡ map (on band) (drop 5 u) =
    ap passed_by_rest (sym (take-append-drop 5 u)) ∙ passed_after_five (take 5 u) (drop 5 u) band (length-take-le 5 u long) front in
    let closed : is_open new ≡ false = ap is_open_in same ∙ shut in
    record {
      passed = g ∷ [];
      later = [];
      reads = record {
        position = omega (arith, at, r.position, length-append bytes u);
        within = omega (arith, at, r.position, length-append bytes u, new.within);
        fits = omega (arith, few);
        splits = record {
          spelled = spells_all_whole start (bytes ++ u) given u g (spells_all_more start bytes given [] u was.splits.spelled) spelled
              (omega (arith, r.position, length-append bytes u));
          ends = none_begins_nothing;
        };
        state = stands_open new _ _ [] (ap fault_in same ∙ sound) (gathers_between new closed) (rest_of_shut new closed);
      };
      on_bands = not_announced_banded g (ap is_some e);
      free = refl;
      held = λ _ is. absurd (cc);
      joins =
          append-nil (passed_by_rest u ++ [])
          ∙ append-nil (passed_by_rest u)
          ∙ passes
          ∙ ap (λ (l : List ℕ). passed_by_rest l ++ map (on band) (drop 5 u)) (sym none);
    }

pub at_once_moves : (old new : PacketReader) (chunk : List ℕ) (field : ℕ) (band : Band) → fault_of old ≡ None → is_open old ≡ false
    → field ≤ length chunk → IsWhole (take field chunk) field → 6 ≤ field → band_in (drop 4 (take field chunk)) ≡ Some band → new.state ≡ old.state
    → position_of new ≡ position_of old + field → length (held_of new) ≤ 5
    → BandMoves old chunk (field - 5 + 5) (Part (record { band = band; count = field - 5 })) new
at_once_moves old new chunk field band sound shut within whole six e same at few =
    let u = take field chunk in
    let long : length u ≡ field = length-take-le field chunk within in
    let sum : field ≡ field - 5 + 5 = omega arith in
    let last : length (drop 5 u) ≡ field - 5 = omega (arith, length-drop 5 u, long) in
    let closed : is_open new ≡ false = ap is_open_in same ∙ shut in
    let moves : BandMoves old chunk field (Part (record { band = band; count = field - 5 })) new = record {
      passes = may_pass_shut new closed;
      rises = shut_rises new _ closed;
      comes = record {
        bytes = drop 5 u;
        not_fatal = never_fatal (drop 4 u) band e;
        long = last;
        is_part = record {
          uses = omega arith;
          some = omega (arith, last);
          fits = omega (arith, last, whole.allowed.fits);
          front = take 5 u;
          lies = sym (take-append-drop 5 u);
          no_fault = ap fault_in same ∙ sound;
          all = λ opened. absurd (cc);
          few = few;
        };
        goes = bands_at_once old new u field band sound shut whole (omega arith) e same (omega (arith, at, long)) few;
      };
    } in
    subst (λ (n : ℕ). BandMoves old chunk n (Part (record { band = band; count = field - 5 })) new) sum moves

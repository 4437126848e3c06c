-- A step of the reader in a section of side bands keeps its relation to the stream.
use Rattle.std.proofs.Common.{arith, ◌≡◌, ◌≢◌, ℕ, ◌+◌, ◌<◌, ◌≤◌, ◌==◌, Bool, true, false, cond, List, [], ◌∷◌, ◌++◌, length, take, drop, map}
use Rattle.std.proofs.Common.{Option, Some, None, is_some, ap, sym, ◌∙◌, refl, subst, append_assoc}
use Rattle.std.proofs.lemmas.List.{append-nil, length-take-le, take-append-drop}
use Rattle.git_pkt.specs.Packets.{Pkt, flush, delim, resp_end, payload, Spells}
use Rattle.git_pkt.specs.Passed.{OnBand, band_in, begins_band, bytes_on, is_on_band, on, others, passed_by, passed_by_all, passed_by_rest, passed_in}
use Rattle.git_pkt.specs.Splits.{Given}
use Rattle.git_pkt.specs.Machine.ReaderState.{passes_in}
use Rattle.git_pkt.specs.Machine.PacketReader.{Reads, bytes_held, fault_of, held_of, is_open, passes_of, position_of, rest_of}
use Rattle.git_pkt.specs.Machine.PacketReaderSteps.{Moves}
use Rattle.git_pkt.specs.Machine.BandReader.{MayPass, ReadsBandsOn}
use Rattle.git_pkt.specs.declared.band.Band.{Band}
use Rattle.git_pkt.specs.declared.band.Band.TheVariants.{Pack, Progress, Fatal}
use Rattle.git_pkt.specs.declared.fault.Fault.{Fault}
use Rattle.git_pkt.specs.declared.reader.PacketReader.{PacketReader}
use Rattle.git_pkt.specs.declared.progress.Progress.TheVariants.{Open, Whole, Failed}
use Rattle.git_pkt.specs.declared.reader.State.TheVariants.{Passing}
use Rattle.git_pkt.proofs.Streams.{spells_all_front}
use Rattle.git_pkt.proofs.ReaderMoves.{rest_of_shut}
use Rattle.git_pkt.proofs.Carries.{reads_failed, reads_open, reads_whole, was_held}

-- at most five bytes of a packet pass nothing, nor do packets on no band
one_on : (o : Option Band) → bytes_on o [] ≡ []
one_on None = refl
one_on (Some band) = refl

none_on : (o : Option Band) (bytes : List ℕ) → is_some o ≡ false → bytes_on o bytes ≡ []
none_on None bytes e = refl
none_on (Some band) bytes e = absurd (cc)

pub passes_short : (l : List ℕ) → length l ≤ 5 → passed_by_rest l ≡ []
passes_short [] h = refl
passes_short (a ∷ []) h = refl
passes_short (a ∷ b ∷ []) h = refl
passes_short (a ∷ b ∷ c ∷ []) h = refl
passes_short (a ∷ b ∷ c ∷ d ∷ []) h = refl
passes_short (a ∷ b ∷ c ∷ d ∷ e ∷ []) h = one_on (band_in (e ∷ []))
passes_short (a ∷ b ∷ c ∷ d ∷ e ∷ f ∷ l) h = absurd (omega arith)

-- the bytes of a fatal error do not pass
fatal_by : (first second : Bool) → cond first (Some Pack) (cond second (Some Progress) None) ≡ Some Fatal → ⊥
fatal_by true second e = cc
fatal_by false true e = cc
fatal_by false false e = cc

pub never_fatal : (bytes : List ℕ) (band : Band) → band_in bytes ≡ Some band → band ≢ Fatal
never_fatal [] band is e = cc
never_fatal (byte ∷ bytes) band is e = fatal_by (byte == 1) (byte == 2) (is ∙ ap Some e)

pub none_in_payload : (bytes : List ℕ) → begins_band bytes ≡ false → passed_in bytes ≡ []
none_in_payload [] e = refl
none_in_payload (b ∷ bytes) e = none_on (band_in (b ∷ bytes)) bytes e

pub passes_unbanded : (l : List ℕ) → begins_band (drop 4 l) ≡ false → passed_by_rest l ≡ []
passes_unbanded l e = none_in_payload (drop 4 l) e

pub unbanded_short : (l : List ℕ) → length l < 5 → begins_band (drop 4 l) ≡ false
unbanded_short [] h = refl
unbanded_short (a ∷ []) h = refl
unbanded_short (a ∷ b ∷ []) h = refl
unbanded_short (a ∷ b ∷ c ∷ []) h = refl
unbanded_short (a ∷ b ∷ c ∷ d ∷ []) h = refl
unbanded_short (a ∷ b ∷ c ∷ d ∷ e ∷ l) h = absurd (omega arith)

-- the band follows from the first five bytes
pub band_longer : (l more : List ℕ) → 5 ≤ length l → band_in (drop 4 (l ++ more)) ≡ band_in (drop 4 l)
band_longer [] more h = absurd (omega arith)
band_longer (a ∷ []) more h = absurd (omega arith)
band_longer (a ∷ b ∷ []) more h = absurd (omega arith)
band_longer (a ∷ b ∷ c ∷ []) more h = absurd (omega arith)
band_longer (a ∷ b ∷ c ∷ d ∷ []) more h = absurd (omega arith)
band_longer (a ∷ b ∷ c ∷ d ∷ e ∷ l) more h = refl

pub band_of_take : (n : ℕ) (l : List ℕ) → 5 ≤ n → n ≤ length l → band_in (drop 4 (take n l)) ≡ band_in (drop 4 l)
band_of_take n l five within =
    sym (band_longer (take n l) (drop n l) (omega (arith, length-take-le n l within))) ∙ ap (λ (x : List ℕ). band_in (drop 4 x)) (take-append-drop n l)

-- the bytes that pass after the first five
pub passed_after_five : (held more : List ℕ) (band : Band) → length held ≡ 5 → band_in (drop 4 held) ≡ Some band
    → passed_by_rest (held ++ more) ≡ map (on band) more
passed_after_five [] more band five e = absurd (omega arith)
passed_after_five (a ∷ []) more band five e = absurd (omega arith)
passed_after_five (a ∷ b ∷ []) more band five e = absurd (omega arith)
passed_after_five (a ∷ b ∷ c ∷ []) more band five e = absurd (omega arith)
passed_after_five (a ∷ b ∷ c ∷ d ∷ []) more band five e = absurd (omega arith)
passed_after_five (a ∷ b ∷ c ∷ d ∷ f ∷ []) more band five e = ap (λ (o : Option Band). bytes_on o more) e
passed_after_five (a ∷ b ∷ c ∷ d ∷ f ∷ g ∷ l) more band five e = absurd (omega arith)

pub passed_by_all-append : (gs hs : List Given) → passed_by_all (gs ++ hs) ≡ passed_by_all gs ++ passed_by_all hs
passed_by_all-append [] hs = refl
passed_by_all-append (g ∷ gs) hs =
    ap (λ (l : List OnBand). passed_by g.packet ++ l) (passed_by_all-append gs hs) ∙ sym (append_assoc (passed_by g.packet) _ _)

chosen-append : (b : Bool) (g : Given) (gs hs : List Given) → cond b gs (g ∷ gs) ++ hs ≡ cond b (gs ++ hs) (g ∷ (gs ++ hs))
chosen-append true g gs hs = refl
chosen-append false g gs hs = refl

pub others-append : (gs hs : List Given) → others (gs ++ hs) ≡ others gs ++ others hs
others-append [] hs = refl
others-append (g ∷ gs) hs =
    ap (λ (l : List Given). cond (is_on_band g.packet) l (g ∷ l)) (others-append gs hs)
    ∙ sym (chosen-append (is_on_band g.packet) g (others gs) (others hs))

regrouped : (given front back announced : List Given) → (given ++ (front ++ [])) ++ (back ++ announced) ≡ given ++ ((front ++ back) ++ announced)
regrouped given front back announced =
    append_assoc given (front ++ []) (back ++ announced)
    ∙ ap (λ (l : List Given). given ++ (l ++ (back ++ announced))) (append-nil front)
    ∙ ap (λ (l : List Given). given ++ l) (sym (append_assoc front back announced))

-- two steps, one after the other
pub bands_on : (a b c : PacketReader) (u v : List ℕ) (announced : List Given) (p q : List OnBand)
    → ReadsBandsOn a u [] p b → ReadsBandsOn b v announced q c → ReadsBandsOn a (u ++ v) announced (p ++ q) c
bands_on a b c u v announced p q h k start bytes given rest r =
    let first = h start bytes given rest r in
    let next = k start (bytes ++ u) (given ++ (first.passed ++ [])) first.later first.reads in
    record {
      passed = first.passed ++ next.passed;
      later = next.later;
      reads =
          subst (λ (l : List ℕ). Reads c start l (given ++ ((first.passed ++ next.passed) ++ announced)) next.later) (append_assoc bytes u v)
          (subst (λ (gs : List Given). Reads c start ((bytes ++ u) ++ v) gs next.later) (regrouped given first.passed next.passed announced) next.reads);
      on_bands = others-append first.passed next.passed ∙ ap (λ (l : List Given). l ++ others next.passed) first.on_bands ∙ next.on_bands;
      free = next.free;
      joins =
          ap (λ (l : List OnBand). l ++ passed_by_rest next.later) (passed_by_all-append first.passed next.passed)
          ∙ append_assoc (passed_by_all first.passed) (passed_by_all next.passed) (passed_by_rest next.later)
          ∙ ap (λ (l : List OnBand). passed_by_all first.passed ++ l) next.joins
          ∙ sym (append_assoc (passed_by_all first.passed) (passed_by_rest first.later) q)
          ∙ ap (λ (l : List OnBand). l ++ q) first.joins
          ∙ append_assoc (passed_by_rest rest) p q;
      held = λ g is. let h = next.held g is in (h.0, sym (append_assoc bytes u v) ∙ h.1);
    }

-- no step
pub bands_stay : (r : PacketReader) → ReadsBandsOn r [] [] [] r
bands_stay reader start bytes given rest r = record {
  passed = [];
  later = rest;
  reads =
      subst (λ (l : List ℕ). Reads reader start l (given ++ []) rest) (sym (append-nil bytes))
      (subst (λ (gs : List Given). Reads reader start bytes gs rest) (sym (append-nil given)) r);
  on_bands = refl;
  free = refl;
  joins = sym (append-nil (passed_by_rest rest));
  held = λ g is. absurd (cc);
}

joined_to_nothing : (front back : List OnBand) → front ≡ [] → back ≡ [] → front ≡ back ++ []
joined_to_nothing front back e f = e ∙ sym (ap (λ (l : List OnBand). l ++ []) f)

-- more bytes were gathered, and none of them passes
pub bands_open : (old new : PacketReader) (u : List ℕ) → bytes_held new ≤ 65520 → fault_of old ≡ None → passes_of old ≡ false
    → passed_by_rest (rest_of old) ≡ []
    → passed_by_rest (rest_of old ++ u) ≡ [] → Moves old u Open new → ReadsBandsOn old u [] [] new
bands_open old new u fits sound gathers none none_after m start bytes given rest r =
    let was = was_held old start bytes given rest sound gathers r in
    record {
      passed = [];
      later = rest ++ u;
      reads = reads_open old new u fits sound gathers m start bytes given rest r;
      on_bands = refl;
      free = refl;
      joins = joined_to_nothing (passed_by_rest (rest ++ u)) (passed_by_rest rest)
          (ap (λ (l : List ℕ). passed_by_rest (l ++ u)) (sym was) ∙ none_after) (ap passed_by_rest (sym was) ∙ none);
      held = λ g is. absurd (cc);
    }

pub bands_failed : (old new : PacketReader) (u : List ℕ) (f : Fault) → bytes_held new ≤ 65520 → fault_of old ≡ None → passes_of old ≡ false
    → passed_by_rest (rest_of old) ≡ []
    → passed_by_rest (rest_of old ++ u) ≡ [] → Moves old u (Failed f) new → ReadsBandsOn old u [] [] new
bands_failed old new u f fits sound gathers none none_after m start bytes given rest r =
    let was = was_held old start bytes given rest sound gathers r in
    record {
      passed = [];
      later = rest ++ u;
      reads = reads_failed old new u f fits sound gathers m start bytes given rest r;
      on_bands = refl;
      free = refl;
      joins = joined_to_nothing (passed_by_rest (rest ++ u)) (passed_by_rest rest)
          (ap (λ (l : List ℕ). passed_by_rest (l ++ u)) (sym was) ∙ none_after) (ap passed_by_rest (sym was) ∙ none);
      held = λ g is. absurd (cc);
    }

pub announced_unbanded : (g : Given) → is_on_band g.packet ≡ false → others (g ∷ []) ≡ g ∷ []
announced_unbanded g e = ap (λ (b : Bool). cond b [] (g ∷ [])) e

pub not_announced_banded : (g : Given) → is_on_band g.packet ≡ true → others (g ∷ []) ≡ []
not_announced_banded g e = ap (λ (b : Bool). cond b [] (g ∷ [])) e

-- a packet that is whole in the hold: it is returned if no bytes of its kind pass
pub bands_whole : (old new : PacketReader) (u : List ℕ) (g : Given) → bytes_held new ≤ 65520 → fault_of old ≡ None → passes_of old ≡ false
    → passed_by_rest (rest_of old) ≡ [] → Moves old u Whole new → Spells g.packet (held_of new)
    → g.offset + length (held_of new) ≡ position_of new → is_on_band g.packet ≡ false → ReadsBandsOn old u (g ∷ []) [] new
bands_whole old new u g fits sound gathers none m spells at free start bytes given rest r =
    let was = was_held old start bytes given rest sound gathers r in
    record {
      passed = [];
      later = [];
      reads = reads_whole old new u g fits sound gathers m spells at start bytes given rest r;
      on_bands = refl;
      free = announced_unbanded g free;
      joins = joined_to_nothing [] (passed_by_rest rest) refl (ap passed_by_rest (sym was) ∙ none);
      held = λ _ is.
          let front = spells_all_front start bytes given rest r.splits.spelled in (
            front.0,
            ap (λ (l : List ℕ). l ++ u) front.1
                ∙ append_assoc front.0 rest u
                ∙ ap (λ (l : List ℕ). front.0 ++ l) (ap (λ (l : List ℕ). l ++ u) (sym was) ∙ sym m.arrives.held),
          );
    }

-- or skipped if it has no byte that could pass
pub bands_empty : (old new : PacketReader) (u : List ℕ) (g : Given) → bytes_held new ≤ 65520 → fault_of old ≡ None → passes_of old ≡ false
    → passed_by_rest (rest_of old) ≡ [] → Moves old u Whole new → Spells g.packet (held_of new)
    → g.offset + length (held_of new) ≡ position_of new → is_on_band g.packet ≡ true → passed_by g.packet ≡ [] → ReadsBandsOn old u [] [] new
bands_empty old new u g fits sound gathers none m spells at banded none_by start bytes given rest r =
    let was = was_held old start bytes given rest sound gathers r in
    record {
      passed = g ∷ [];
      later = [];
      reads = reads_whole old new u g fits sound gathers m spells at start bytes given rest r;
      on_bands = not_announced_banded g banded;
      free = refl;
      joins = joined_to_nothing ((passed_by g.packet ++ []) ++ []) (passed_by_rest rest)
          (ap (λ (l : List OnBand). (l ++ []) ++ []) none_by) (ap passed_by_rest (sym was) ∙ none);
      held = λ _ is. absurd (cc);
    }

-- a packet in the hold is on a band exactly if its payload begins with a band's byte
pub banded_body : (p : Pkt) (s : List ℕ) → Spells p s → is_on_band p ≡ begins_band (drop 4 s)
banded_body flush s h = sym (ap begins_band h.body)
banded_body delim s h = sym (ap begins_band h.body)
banded_body resp_end s h = sym (ap begins_band h.body)
banded_body (payload bytes) s h = sym (ap begins_band h.body)

pub passed_body : (p : Pkt) (s : List ℕ) → Spells p s → passed_by p ≡ passed_by_rest s
passed_body flush s h = sym (ap passed_in h.body)
passed_body delim s h = sym (ap passed_in h.body)
passed_body resp_end s h = sym (ap passed_in h.body)
passed_body (payload bytes) s h = sym (ap passed_in h.body)

-- the readers that may pass bytes
pub may_pass_shut : (r : PacketReader) → is_open r ≡ false → MayPass r
may_pass_shut r shut gathers = ap (λ (l : List ℕ). begins_band (drop 4 l)) (rest_of_shut r shut)

pub may_pass_passing : (r : PacketReader) (left : ℕ) → r.state ≡ Passing left → MayPass r
may_pass_passing r left e gathers = let passes = ap passes_in e in absurd (cc)

-- The effect of a call of `feed_band`, from the effects of its steps.
use Rattle.std.proofs.Common.{arith, ◌≡◌, ◌≢◌, ℕ, ◌+◌, ◌-◌, ◌≤◌, Bool, true, false, List, [], ◌++◌, length, take, drop, map, Bor}
use Rattle.std.proofs.Common.{Some, None, ap, sym, ◌∙◌, refl, subst, append_assoc, length-append}
use Rattle.std.proofs.lemmas.List.{length-take-le, take-append-drop}
use Rattle.std.proofs.Math.Seq.{take-append_seam, drop-append_seam}
use Rattle.git_pkt.specs.Passed.{begins_band, on}
use Rattle.git_pkt.specs.Machine.PacketReader.{ShownByFeed, fault_of, held_of, passes_of}
use Rattle.git_pkt.specs.Machine.PassedOut.{HandsOut, HasPart}
use Rattle.git_pkt.specs.Machine.BandReader.{BandMoves, FeedsBand, HoldsFew, IsPart, MayPass, ReadsBandsOn}
use Rattle.git_pkt.specs.declared.band.Band.{Band}
use Rattle.git_pkt.specs.declared.band.Band.TheVariants.{Fatal}
use Rattle.git_pkt.specs.declared.fault.Fault.{Fault}
use Rattle.git_pkt.specs.declared.reader.BandFed.{BandFed}
use Rattle.git_pkt.specs.declared.reader.BandGot.{BandGot}
use Rattle.git_pkt.specs.declared.reader.BandGot.TheVariants.{More, Part as PartGot, Failed}
use Rattle.git_pkt.specs.declared.progress.BandProgress.{BandProgress}
use Rattle.git_pkt.specs.declared.progress.BandProgress.TheVariants.{Open, Empty, Part, Whole, Failed as FailedStep}
use Rattle.git_pkt.specs.declared.progress.Passed.{Passed}
use Rattle.git_pkt.specs.declared.reader.PacketReader.{PacketReader}
use Rattle.git_pkt.proofs.KnownRest.{gathered_rest}
use Rattle.git_pkt.proofs.OpenLengths.{failed_counts_none}
use Rattle.git_pkt.proofs.BandCarries.{bands_stay}

few_by : (r : PacketReader) (b : Bool) → passes_of r ≡ b → MayPass r → HoldsFew r
few_by r true e may rest holds banded = omega (arith, (r.passing e).five)
few_by r false e may rest holds banded =
    let free = sym (ap (λ (l : List ℕ). begins_band (drop 4 l)) (gathered_rest r rest e holds)) ∙ may e in absurd (cc)

pub holds_few : (r : PacketReader) → MayPass r → HoldsFew r
holds_few r may = few_by r (passes_of r) refl may

-- the last of the bytes used, as a slice shows them
front_and_back : (chunk front bytes : List ℕ) (used : ℕ) → take used chunk ≡ front ++ bytes → chunk ≡ front ++ (bytes ++ drop used chunk)
front_and_back chunk front bytes used e =
    sym (take-append-drop used chunk) ∙ ap (λ (l : List ℕ). l ++ drop used chunk) e ∙ append_assoc front bytes (drop used chunk)

pub last_of_used : (chunk front bytes : List ℕ) (used count : ℕ) → take used chunk ≡ front ++ bytes → length bytes ≡ count → used ≤ length chunk
    → take (used - (used - count)) (drop (used - count) chunk) ≡ bytes
last_of_used chunk front bytes used count e long within =
    let all : used ≡ length front + length bytes =
    sym (length-take-le used chunk within) ∙ ap length e ∙ length-append front bytes in
    let first : used - count ≡ length front = omega (arith, all, long) in
    let last : used - (used - count) ≡ length bytes = omega (arith, all, long) in
    ap (λ (n : ℕ). take n (drop (used - count) chunk)) last
    ∙ ap (λ (n : ℕ). take (length bytes) (drop n chunk)) first
    ∙ ap (λ (l : List ℕ). take (length bytes) (drop (length front) l)) (front_and_back chunk front bytes used e)
    ∙ ap (λ (l : List ℕ). take (length bytes) l) (drop-append_seam front (bytes ++ drop used chunk))
    ∙ take-append_seam bytes (drop used chunk)

module _ (old new : PacketReader) (chunk : List ℕ) (used : ℕ) (sound : fault_of old ≡ None) (keeps : used ≡ 0 → held_of new ≡ held_of old) where
  feeds_more : BandMoves old chunk used Open new → FeedsBand old chunk (record { used = used; got = More }) new
  feeds_more m = record {
    reads = m.comes.goes;
    announces = (m.comes.all, m.comes.no_fault);
    news = λ f was is. absurd (cc);
    stays = λ f is. absurd (cc);
    keeps = keeps;
    counts = m.rises;
    passes = m.passes;
    few = holds_few new m.passes;
  }

  feeds_part : (part : Passed) (band : Band) (bytes : Bor (List ℕ)) → BandMoves old chunk used (Part part) new → used ≤ length chunk
      → HandsOut (Part part) used chunk (PartGot band bytes) → FeedsBand old chunk (record { used = used; got = PartGot band bytes }) new
  feeds_part part band bytes m within (same_band, lies) =
      let p = m.comes.is_part in
      let same : m.comes.bytes ≡ bytes.now = sym (lies ∙ last_of_used chunk p.front m.comes.bytes used part.count p.lies m.comes.long within) in
      record {
        reads = subst (λ (b : Band). ReadsBandsOn old (take used chunk) [] (map (on b) bytes.now) new) (sym same_band)
            (subst (λ (l : List ℕ). ReadsBandsOn old (take used chunk) [] (map (on part.band) l) new) same m.comes.goes);
        announces = (
          subst (λ (b : Band). b ≢ Fatal) (sym same_band) m.comes.not_fatal,
          subst (λ (l : List ℕ). IsPart l used chunk new) same p,
        );
        news = λ f was is. absurd (cc);
        stays = λ f is. absurd (cc);
        keeps = keeps;
        counts = m.rises;
        passes = m.passes;
        few = holds_few new m.passes;
      }

  pub has_part : (progress : BandProgress) → BandMoves old chunk used progress new → used ≤ length chunk → HasPart progress used
  has_part (Part part) m within =
      let p = m.comes.is_part in
      omega (arith, m.comes.long, length-take-le used chunk within, ap length p.lies, length-append p.front m.comes.bytes)
  has_part Open m within = tt
  has_part Empty m within = tt
  has_part Whole m within = tt
  has_part (FailedStep f) m within = tt

  feeds_failed : (f : Fault) → BandMoves old chunk used (FailedStep f) new → FeedsBand old chunk (record { used = used; got = Failed f }) new
  feeds_failed f m = record {
    reads = m.comes.goes;
    announces = m.comes.announced;
    news = λ g was is. let same : f ≡ g = cc in subst (λ (x : Fault). ShownByFeed x used chunk) same m.comes.shown;
    stays = λ g is. absurd (cc);
    keeps = keeps;
    counts = failed_counts_none new f m.comes.announced;
    passes = m.passes;
    few = holds_few new m.passes;
  }

  -- every result other than a packet in the hold
  hands_out : (progress : BandProgress) (got : BandGot) → BandMoves old chunk used progress new → used ≤ length chunk → (progress ≡ Whole → ⊥)
      → (progress ≡ Empty → ⊥) → HandsOut progress used chunk got → FeedsBand old chunk (record { used = used; got = got }) new
  hands_out (Part part) (PartGot band bytes) m within whole empty h = feeds_part part band bytes m within h
  hands_out (FailedStep f) (Failed g) m within whole empty h =
      subst (λ (x : Fault). FeedsBand old chunk (record { used = used; got = Failed x }) new) h (feeds_failed f m)
  hands_out Open More m within whole empty h = feeds_more m
  hands_out Empty got m within whole empty h = absurd (empty refl)
  hands_out Whole got m within whole empty h = absurd (whole refl)
  hands_out progress got m within whole empty h = absurd h

  pub feeds_step : (progress : BandProgress) (fed : BandFed) → BandMoves old chunk used progress new → used ≤ length chunk → (progress ≡ Whole → ⊥)
      → (progress ≡ Empty → ⊥) → fed.used ≡ used → HandsOut progress used chunk fed.got → FeedsBand old chunk fed new
  feeds_step progress fed m within whole empty same h =
      subst (λ (n : ℕ). FeedsBand old chunk (record { used = n; got = fed.got }) new) (sym same) (hands_out progress fed.got m within whole empty h)

-- a reader with an error
pub feeds_again : (old : PacketReader) (chunk : List ℕ) (f : Fault) → fault_of old ≡ Some f → MayPass old
    → FeedsBand old chunk (record { used = 0; got = Failed f }) old
feeds_again old chunk f announced may = record {
  reads = bands_stay old;
  announces = announced;
  news = λ g none is. absurd (cc);
  stays = λ g is. (refl, ap (λ (x : Fault). Failed x) (cc), refl);
  keeps = λ none. refl;
  counts = failed_counts_none old f announced;
  passes = may;
  few = holds_few old may;
}

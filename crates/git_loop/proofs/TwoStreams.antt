-- A run over two readers and one writer.
use Rattle.std.proofs.Common.{arith, ◌≡◌, ◌⊎◌, inl, inr, ℕ, ◌+◌, ◌-◌, ◌≤◌, ◌^◌, ◌||◌, min, Bool, true, false, Option, Result, Ok, Err, IfErr}
use Rattle.std.proofs.Common.{IsTrue, List, [], ◌∷◌, ◌++◌, refl, ap, ◌∙◌, subst}
use Rattle.git_pkt.specs.Machine.Engine.{FailsAs, IsShownBy}
use Rattle.git_pkt.specs.Machine.Recorded.{IsNew, inner_of}
use Rattle.git_pkt.specs.declared.fault.RunFault.{RunFault}
use Rattle.git_pkt.specs.declared.fault.RunFault.TheVariants.{ReadFault, WriteFault, ReadLimit, Refused}
use Rattle.git_pkt.specs.declared.recorded.Recorded.{Recorded}
use Rattle.git_loop.specs.Moves.{ended_after, given_to, used_of}
use Rattle.git_loop.specs.Streams.{InputState, one_output, recorded_input, two_inputs}
use Rattle.git_loop.specs.Machines.{AreSound, EndStates, FailedAlone, RanOver, States, WaitsFor}
use Rattle.git_loop.specs.TwoStreams.{EndsTwo, IsLeft, IsOneOfTwo, OfEither, RanTwo}
use Rattle.git_loop.proofs.OneStream.{was_read}
use Rattle.git_loop.proofs.RunLemmas.{or-true}

of_either : (P : ℕ → Type 0) (from : ℕ) → IsOneOfTwo from → P from → OfEither P
of_either P from exists holds = elim exists [
  | inl first ↦ inl (subst P first holds)
  | inr second ↦ inr (subst P second holds)
]

-- the reads that were allowed to both inputs together were made, and one of the two had not ended
abbrev pub AreSpent : InputState → InputState → ℕ → Type 0
AreSpent first second turns = (first.reads + second.reads ≡ turns) × ((first.ended ≡ false) ⊎ (second.ended ≡ false))

module _ (first second : InputState) where
  none_failed : AreSound IsOneOfTwo (two_inputs first second) → (first.failed || second.failed) ≡ false
  none_failed sound = ap (λ (b : Bool). b || second.failed) (sound 0 (inl refl)) ∙ sound 1 (inr refl)

  one_failed : (from : ℕ) → FailedAlone IsOneOfTwo (two_inputs first second) from → (first.failed || second.failed) ≡ true
  one_failed from alone =
      elim (of_either (λ (k : ℕ). (two_inputs first second k).failed ≡ true) from alone.exists alone.failed) [
        | inl failed ↦ ap (λ (b : Bool). b || second.failed) failed
        | inr failed ↦ ap (λ (b : Bool). first.failed || b) failed ∙ or-true first.failed
      ]

-- a run over two inputs, from these states of theirs to those
abbrev pub OverTwo : {M : Type 0} → States M → EndStates → M → M → (first second first_after second_after : InputState)
    → (before after : ℕ → Option (List ℕ)) → Result (Unit {0}) RunFault → Type 0
OverTwo states at_end old new first second first_after second_after before after result =
    RanOver states at_end IsOneOfTwo result old new (two_inputs first second) (two_inputs first_after second_after) before after

module _ {M : Type 0} {states : States M} {at_end : EndStates} {old new : M} {first second first_after second_after : InputState}
    {before after : ℕ → Option (List ℕ)} where
  -- which streams failed
  pub two_fail : (result : Result (Unit {0}) RunFault) → OverTwo states at_end old new first second first_after second_after before after result
      → FailsAs result (first_after.failed || second_after.failed) at_end.write_failed
  two_fail (Ok done) ran = (none_failed first_after second_after ran.failed.0, ran.failed.1)
  two_fail (Err ReadFault) ran = let ((from, alone), unbroken) = ran.failed in (one_failed first_after second_after from alone, unbroken)
  two_fail (Err WriteFault) ran = (none_failed first_after second_after ran.failed.0, ran.failed.1)
  two_fail (Err ReadLimit) ran = (none_failed first_after second_after ran.failed.0, ran.failed.1)
  two_fail (Err (Refused fault)) ran = absurd ran.ends

  module _ (needs_these : (k : ℕ) → at_end.needs_input k → IsOneOfTwo k) where
    two_end : (result : Result (Unit {0}) RunFault) → OverTwo states at_end old new first second first_after second_after before after result
        → EndsTwo result at_end.needs_input at_end.finished (two_inputs first_after second_after)
    two_end (Ok done) ran = ran.ends
    two_end (Err ReadFault) ran =
        let (from, waits, failed) = ran.ends in
        of_either (λ (k : ℕ). WaitsFor at_end.needs_input (two_inputs first_after second_after) k
        × ((two_inputs first_after second_after k).failed ≡ true)) from (needs_these from waits.needs) (waits, failed)
    two_end (Err WriteFault) ran = tt
    two_end (Err ReadLimit) ran =
        let (from, waits, all) = ran.ends in
        of_either (λ (k : ℕ). WaitsFor at_end.needs_input (two_inputs first_after second_after) k) from (needs_these from waits.needs) waits
    two_end (Err (Refused fault)) ran = absurd ran.ends

    -- what shows each fault of a run that may make so many reads, of inputs that were not read before
    pub two_shown : (turns : ℕ) → turns ≤ 2 ^ 64 - 1
        → (at_end.spent → min (first.reads + second.reads + turns) (2 ^ 64 - 1) ≤ first_after.reads + second_after.reads)
        → first.reads ≡ 0 → second.reads ≡ 0 → (result : Result (Unit {0}) RunFault)
        → OverTwo states at_end old new first second first_after second_after before after result → first_after.reads + second_after.reads ≤ turns
        → IfErr result (IsShownBy (IsTrue (first_after.failed || second_after.failed)) (IsTrue at_end.write_failed)
        (AreSpent first_after second_after turns))
    two_shown turns bounded spent unread other_unread (Ok done) ran most = tt
    two_shown turns bounded spent unread other_unread (Err ReadFault) ran most = (two_fail (Err ReadFault) ran).0
    two_shown turns bounded spent unread other_unread (Err WriteFault) ran most = (two_fail (Err WriteFault) ran).1
    two_shown turns bounded spent unread other_unread (Err ReadLimit) ran most =
        let (from, waits, all) = ran.ends in (
          omega (arith, spent all, most, unread, other_unread, bounded),
          of_either (λ (k : ℕ). (two_inputs first_after second_after k).ended ≡ false) from (needs_these from waits.needs) waits.still_open,
        )
    two_shown turns bounded spent unread other_unread (Err (Refused fault)) ran most = absurd ran.ends

  -- how an input that had not ended was left, if no bytes of it waited where it had
  left_so : (k : ℕ) {result : Result (Unit {0}) RunFault}
      (ran : OverTwo states at_end old new first second first_after second_after before after result) → (two_inputs first second k).ended ≡ false
      → (two_inputs first second k).window ≡ [] → IsLeft states old new ran.went.trace k (two_inputs first_after second_after k)
  left_so k ran unended empty = record {
    closed = ran.went.ended k ∙ ap (λ (b : Bool). ended_after k b ran.went.trace) unended;
    whole = (ran.went.used k).emptied (λ e. empty);
    short = λ r s.
        elim (ran.went.short r k s) [
          | inl more ↦ inl more
          | inr before ↦ inr before.0
        ];
  }

-- A run over two new readers; no bytes of them waited before. The lists `w` and `other_w` wait after it.
module _ {M Q R W : Type 0} {states : States M} {at_end : EndStates} {old new : M} (needs_these : (k : ℕ) → at_end.needs_input k → IsOneOfTwo k)
    (of_first : Q → Option (List ℕ)) (of_second : R → Option (List ℕ)) (contents : W → Option (List ℕ)) (first first_after : Recorded Q)
    (second second_after : Recorded R) (v w other_v other_w : List ℕ) (writer writer_after : Recorded W) where
  pub ran_two : IsNew first → IsNew second → v ≡ [] → other_v ≡ []
      → (result : Result (Unit {0}) RunFault)
      → RanOver states at_end IsOneOfTwo result old new (two_inputs (recorded_input of_first first v) (recorded_input of_second second other_v))
      (two_inputs (recorded_input of_first first_after w) (recorded_input of_second second_after other_w))
      (one_output (contents (inner_of writer))) (one_output (contents (inner_of writer_after)))
      → RanTwo of_first of_second contents states at_end.needs_input at_end.finished result old new first first_after second second_after
      w other_w writer writer_after
  ran_two fresh other_fresh empty other_empty result ran = record {
    used = (used_of 0 ran.went.trace ++ w) ∷ (used_of 1 ran.went.trace ++ other_w) ∷ [];
    given = given_to 0 ran.went.trace ∷ [];
    read = (
      was_read of_first first first_after v w (used_of 0 ran.went.trace) empty (ran.went.used 0),
      (was_read of_second second second_after other_v other_w (used_of 1 ran.went.trace) other_empty (ran.went.used 1), tt),
    );
    written = (ran.went.written 0, tt);
    related = record {
      trace = ran.went.trace;
      received = refl;
      sent = refl;
      reaches = ran.went.reaches;
      first_left = left_so 0 ran fresh.open_ended empty;
      second_left = left_so 1 ran other_fresh.open_ended other_empty;
      ends = two_end needs_these result ran;
    };
  }

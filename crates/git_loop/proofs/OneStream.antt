-- A run over one reader and one writer.
use Rattle.std.proofs.Common.{arith, ◌≡◌, inl, inr, ℕ, ◌+◌, ◌-◌, ◌≤◌, ◌^◌, min, Bool, true, false, Option, Some, None}
use Rattle.std.proofs.Common.{Result, Ok, Err, IfErr, IsTrue}
use Rattle.std.proofs.Common.{List, [], ◌∷◌, ◌++◌, length, take, drop, take-append-drop, append_assoc, refl, sym, ap, ◌∙◌, subst}
use Rattle.std.proofs.lemmas.List.{drop-drop, drop-take, length-take}
use Rattle.std.specs.Io.KnownBytes.{Consumes, IsAtEnd, prepend_known}
use Rattle.git_pkt.specs.Machine.Engine.{FailsAs, IsShownBy, IsSpent}
use Rattle.git_pkt.specs.Machine.Recorded.{IsNew, inner_of, reads_of, has_ended, has_failed, has_wasted}
use Rattle.git_pkt.specs.declared.fault.RunFault.{RunFault}
use Rattle.git_pkt.specs.declared.fault.RunFault.TheVariants.{ReadFault, WriteFault, ReadLimit, Refused}
use Rattle.git_pkt.specs.declared.recorded.Recorded.{Recorded}
use Rattle.git_loop.specs.Moves.{ended_after, given_to, used_of}
use Rattle.git_loop.specs.Streams.{Consumed, EndsAtItsEnd, InputState, one_input, one_output, recorded_input, window_of}
use Rattle.git_loop.specs.Machines.{AreReadToTheEnd, EndStates, EndsRun, IsWaiting, RanOne, RanOver, RunStates, States, Uses, WaitsFor}

-- ---- the window

pub window_used : (left : Option (List ℕ)) (window : List ℕ) (count : ℕ)
    → Consumes (prepend_known window left) (prepend_known (drop count window) left) (take count window)
window_used None window count = tt
window_used (Some left) window count =
    ap (λ (l : List ℕ). l ++ left) (sym (take-append-drop count window)) ∙ append_assoc (take count window) (drop count window) left

-- the rest of a window lies later in the memory
window_later : (start end count : ℕ) (memory : List ℕ) → count ≤ length (window_of start end memory)
    → window_of (start + count) end memory ≡ drop count (window_of start end memory)
window_later start end count memory within =
    let rest = drop start memory in
    let later = end - (start + count) in
    let fits : count ≤ end - start = omega (arith, within, length-take (end - start) rest) in
    let parts : end - start ≡ count + later = omega (arith, fits) in
    sym (ap (λ (n : ℕ). drop count (take n rest)) parts ∙ drop-take count later rest ∙ ap (take later) (drop-drop count start memory))

module _ {R : Type 0} (remaining : R → Option (List ℕ)) (reader : Recorded R) (count start end : ℕ) (memory : List ℕ) where
  abbrev pub input_from : ℕ → InputState
  input_from from = recorded_input remaining reader (window_of from end memory)

  consumes : count ≤ length (input_from start).window → Consumed count (input_from start) (input_from (start + count))
  consumes within =
      let later = window_later start end count memory within in
      record {
        left = subst (λ (l : List ℕ). Consumes (prepend_known (window_of start end memory) (remaining (inner_of reader)))
            (prepend_known l (remaining (inner_of reader))) (take count (window_of start end memory))) (sym later)
            (window_used (remaining (inner_of reader)) (window_of start end memory) count);
        window = later;
        reads = refl;
        failed = refl;
        ended = refl;
        wasted = refl;
      }

  -- so many bytes of the window of an input were used, and its reader was not read
  pub consumes_window : {old new : InputState} → old ≡ input_from start → new ≡ input_from (start + count) → count ≤ length old.window
      → Consumed count old new
  consumes_window {old} {new} was is within =
      subst (λ (i : InputState). Consumed count i new) (sym was)
      (subst (λ (i : InputState). Consumed count (input_from start) i) (sym is)
      (consumes (subst (λ (i : InputState). count ≤ length i.window) was within)))

-- what left the stream, and what waits of it, was read
read_all : (before after : Option (List ℕ)) (window bytes : List ℕ) → Consumes (prepend_known [] before) (prepend_known window after) bytes
    → Consumes before after (bytes ++ window)
read_all None after window bytes used = tt
read_all (Some left) None window bytes used = absurd used
read_all (Some left) (Some later) window bytes used = used ∙ sym (append_assoc bytes window later)

-- what a run used of a reader without waiting bytes, and what waits after it, was read
pub was_read : {R : Type 0} (remaining : R → Option (List ℕ)) (reader reader_after : Recorded R) (window window_after bytes : List ℕ) → window ≡ []
    → Uses (recorded_input remaining reader window) (recorded_input remaining reader_after window_after) bytes
    → Consumes (remaining (inner_of reader)) (remaining (inner_of reader_after)) (bytes ++ window_after)
was_read remaining reader reader_after window window_after bytes empty uses =
    read_all (remaining (inner_of reader)) (remaining (inner_of reader_after)) window_after bytes
    (subst (λ (l : List ℕ). Consumes (prepend_known l (remaining (inner_of reader))) (prepend_known window_after (remaining (inner_of reader_after)))
    bytes) empty uses.left)

-- ---- the end

at_end_behind : (window : List ℕ) (left : Option (List ℕ)) → IsAtEnd (prepend_known window left) → IsAtEnd left
at_end_behind window None none = tt
at_end_behind [] (Some bytes) none = none
at_end_behind (b ∷ bs) (Some bytes) none = absurd (cc)

pub ran_to_the_end : {R : Type 0} (remaining : R → Option (List ℕ)) (reader : Recorded R) (window : List ℕ)
    → AreReadToTheEnd (λ k. k ≡ 0) (one_input (recorded_input remaining reader window))
    → EndsAtItsEnd (has_ended reader) (remaining (inner_of reader))
ran_to_the_end remaining reader window ends ended = at_end_behind window (remaining (inner_of reader)) (ends 0 refl ended)

-- ---- the run

module _ {M R W : Type 0} (states : States M) (at_end : EndStates) (one : (k : ℕ) → at_end.needs_input k → k ≡ 0) (old new : M)
    (remaining : R → Option (List ℕ)) (contents : W → Option (List ℕ)) (reader reader_after : Recorded R) (writer writer_after : Recorded W)
    (v w : List ℕ) (empty : v ≡ []) where
  abbrev now : InputState
  now = recorded_input remaining reader_after w

  abbrev pub OverOne : Result (Unit {0}) RunFault → Type 0
  OverOne result = RanOver states at_end (λ k. k ≡ 0) result old new (one_input (recorded_input remaining reader v)) (one_input now)
      (one_output (contents (inner_of writer))) (one_output (contents (inner_of writer_after)))

  abbrev run_states : RunStates
  run_states = record {
    needs_input = at_end.needs_input 0;
    finished = at_end.finished;
    stopped_short = states.reachable old × states.stopped_short new 0;
    stopped_short_before = states.stopped_short old 0;
  }

  pub ran_useful : (result : Result (Unit {0}) RunFault) → OverOne result → IsNew reader → has_wasted reader_after ≡ false
  ran_useful result ran fresh = (ran.went.used 0).useful ∙ fresh.useful

  pub ran_fails : (result : Result (Unit {0}) RunFault) → OverOne result → FailsAs result (has_failed reader_after) at_end.write_failed
  ran_fails (Ok done) ran = (ran.failed.0 0 refl, ran.failed.1)
  ran_fails (Err ReadFault) ran =
      let alone = ran.failed.0.1 in (subst (λ (n : ℕ). (one_input now n).failed ≡ true) alone.exists alone.failed, ran.failed.1)
  ran_fails (Err WriteFault) ran = (ran.failed.0 0 refl, ran.failed.1)
  ran_fails (Err ReadLimit) ran = (ran.failed.0 0 refl, ran.failed.1)
  ran_fails (Err (Refused fault)) ran = absurd ran.ends

  module _ (turns : ℕ) (bounded : turns ≤ 2 ^ 64 - 1) (spent : at_end.spent → min (reads_of reader + turns) (2 ^ 64 - 1) ≤ reads_of reader_after)
      (fresh : IsNew reader) where
    ended_so : (result : Result (Unit {0}) RunFault) (ran : OverOne result) → has_ended reader_after ≡ ended_after 0 false ran.went.trace
    ended_so result ran = ran.went.ended 0 ∙ ap (λ (b : Bool). ended_after 0 b ran.went.trace) fresh.open_ended

    waits_first : (from : ℕ) → WaitsFor at_end.needs_input (one_input now) from → WaitsFor at_end.needs_input (one_input now) 0
    waits_first from waits = subst (λ (n : ℕ). WaitsFor at_end.needs_input (one_input now) n) (one from waits.needs) waits

    waits_so : (result : Result (Unit {0}) RunFault) (ran : OverOne result) (from : ℕ) → WaitsFor at_end.needs_input (one_input now) from
        → IsWaiting run_states w (ended_after 0 false ran.went.trace)
    waits_so result ran from waits =
        let first = waits_first from waits in
        record { needs_input = first.needs; all = first.all; still_open = sym (ended_so result ran) ∙ first.still_open }

    ends_so : (result : Result (Unit {0}) RunFault) (ran : OverOne result)
        → EndsRun result run_states turns (used_of 0 ran.went.trace) w (ended_after 0 false ran.went.trace)
    ends_so (Ok done) ran = record {
      finished = ran.ends;
      short = λ h.
          elim (ran.went.short h.0 0 h.1) [
            | inl more ↦ inl more
            | inr before ↦ inr before.0
          ];
    }
    ends_so (Err ReadFault) ran = let (from, waits, failed) = ran.ends in waits_so (Err ReadFault) ran from waits
    ends_so (Err WriteFault) ran = tt
    ends_so (Err ReadLimit) ran =
        let (from, waits, all) = ran.ends in
        let first = waits_first from waits in
        let enough = (ran.went.used 0).enough (record { sound = ran.failed.0 0 refl; unended = first.still_open }) in
        (waits_so (Err ReadLimit) ran from waits, omega (arith, spent all, enough.1, ap length first.all, ap length empty, fresh.unread, bounded))
    ends_so (Err (Refused fault)) ran = absurd ran.ends

    pub ran_shown : (result : Result (Unit {0}) RunFault) → OverOne result → reads_of reader_after ≤ turns
        → IfErr result (IsShownBy (IsTrue (has_failed reader_after)) (IsTrue at_end.write_failed) (IsSpent reader_after turns))
    ran_shown (Ok done) ran most = tt
    ran_shown (Err ReadFault) ran most = (ran_fails (Err ReadFault) ran).0
    ran_shown (Err WriteFault) ran most = (ran_fails (Err WriteFault) ran).1
    ran_shown (Err ReadLimit) ran most =
        let (from, waits, all) = ran.ends in
        record { reads = omega (arith, spent all, most, fresh.unread, bounded); open_ended = (waits_first from waits).still_open }
    ran_shown (Err (Refused fault)) ran most = absurd ran.ends

    pub ran_one : (result : Result (Unit {0}) RunFault) → OverOne result
        → RanOne remaining contents states.reaches old new run_states result turns reader reader_after writer writer_after
    ran_one result ran = record {
      used = (used_of 0 ran.went.trace ++ w) ∷ [];
      given = given_to 0 ran.went.trace ∷ [];
      read = (was_read remaining reader reader_after v w (used_of 0 ran.went.trace) empty (ran.went.used 0), tt);
      written = (ran.went.written 0, tt);
      related = record {
        trace = ran.went.trace;
        unused = w;
        received = refl;
        sent = refl;
        reaches = ran.went.reaches;
        whole = λ closed.
            let ended : has_ended reader_after ≡ true = ended_so result ran ∙ closed in ((ran.went.used 0).emptied (λ h. empty) ended, ended);
        ends = ends_so result ran;
      };
    }

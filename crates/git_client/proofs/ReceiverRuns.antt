-- What a run of a receiver means for its client and its streams.
use Rattle.std.proofs.Common.{arith, ◌≡◌, ◌≢◌, inl, inr, ℕ, ◌+◌, ◌-◌, ◌≤◌, ◌<◌, Bool, true, false, List, [], ◌∷◌, ◌++◌, length}
use Rattle.std.proofs.Common.{Option, Some, None, Result, Ok, Err, IfErr, IsErrAnd, IsTrue, refl, sym, ap, ◌∙◌, subst, append-nil}
use Rattle.git_loop.specs.InChunks.{bytes_in}
use Rattle.git_loop.specs.Machines.{EndStates, RanOver, States, WaitsFor, states_of}
use Rattle.git_loop.specs.Moves.{Move, ended_after, given_to, used_of}
use Rattle.git_loop.specs.Streams.{InputState, one_input, recorded_input}
use Rattle.git_pkt.specs.Machine.Engine.{FailsAs, IsShownBy, IsSpent}
use Rattle.git_pkt.specs.Machine.Recorded.{has_ended, has_failed, inner_of, reads_of}
use Rattle.git_pkt.specs.Streams.{Flow, flow, IsTimely, WrittenAs}
use Rattle.git_pkt.specs.declared.fault.Fault.{Fault}
use Rattle.git_pkt.specs.declared.fault.Kind.{Kind}
use Rattle.git_pkt.specs.declared.fault.Kind.TheVariants.{StreamTooLong, Truncated}
use Rattle.git_pkt.specs.declared.fault.RunFault.{RunFault}
use Rattle.git_pkt.specs.declared.fault.RunFault.TheVariants.{ReadFault, WriteFault, ReadLimit, Refused}
use Rattle.git_pkt.specs.declared.recorded.Recorded.{Recorded}
use Rattle.git_pkt.proofs.EngineLemmas.{AppendsFront-longer, at_fault}
use Rattle.git_client.specs.Machine.Client.{fault_of, wants_input}
use Rattle.git_client.specs.Machine.ReceiverStates.{HasFinished, HasGivenAll, HasReceived, IsTooLong, ReceiverReaches, Waits, lines_in, pack_in, progress_in}
use Rattle.git_client.specs.Machine.ReceiverStates.{received_after, received_first, waits_in_time}
use Rattle.git_client.specs.Machine.Messages.{ReceivesFirst, ReceivesMessage}
use Rattle.git_client.specs.Machine.RunSteps.{FaultsInTime, no_counts}
use Rattle.git_client.specs.Machine.WriterStates.{three_outputs}
use Rattle.git_client.specs.declared.receiver.Passing.{Passing}
use Rattle.git_client.specs.declared.receiver.Receiver.{Receiver}

-- the parts were written, and with them what waits, if that is nothing or a write failed
given_out : (broken : Bool) (stream : Flow) (given waiting all : List ℕ) → given ++ waiting ≡ all → (broken ≡ false → waiting ≡ [])
    → WrittenAs broken stream given → WrittenAs broken stream all
given_out false stream given waiting all is none written =
    subst (WrittenAs false stream) (sym (append-nil given) ∙ ap (λ (l : List ℕ). given ++ l) (sym (none refl)) ∙ is) written
given_out true stream given waiting all is none written =
    subst (WrittenAs true stream) is (AppendsFront-longer stream.before stream.after given waiting written)

some_left : (l : List ℕ) → l ≢ [] → 0 < length l
some_left [] some = absurd (some refl)
some_left (b ∷ l) some = omega arith

-- an error comes in time
in_time : (kind : Kind) (ended : Bool) (unused : List ℕ) → (kind ≡ Truncated → (unused ≡ []) × (ended ≡ true))
    → (kind ≡ StreamTooLong → 0 < length unused) → IsTimely kind ended unused
in_time Truncated ended unused last more = last refl
in_time StreamTooLong ended unused last more = more refl
in_time kind ended unused last more = tt

not_true : (b : Bool) → (b ≡ true → ⊥) → b ≡ false
not_true true other = absurd (other refl)
not_true false other = refl

module _ {A : Type 0} where
  -- what a run's clauses name of a receiver
  abbrev pub receiver_states : States (Receiver A)
  receiver_states = states_of (λ old trace new. ReceiverReaches old trace new × (new.client.ghost_name ≡ old.client.ghost_name))
      (λ r k. (k ≡ 0) × Waits r) (λ r k. wants_input r.client.now ≡ false) (λ r k. (k ≡ 0) × IsTooLong (fault_of r.client.now)) (λ r. Unit {0})

  module _ {R : Type 0} (remaining : R → Option (List ℕ)) (old new : Receiver A) (reader reader_after : Recorded R) (waiting unused : List ℕ)
      (out out_after pack pack_after progress progress_after : Option (List ℕ)) (spent : Type 0) (write_failed : Bool)
      (begun : HasReceived (received_first old.client.now no_counts) old) (waits : Waits old) (open_ended : has_ended reader ≡ false) where
    abbrev before : InputState
    before = recorded_input remaining reader waiting

    abbrev after : InputState
    after = recorded_input remaining reader_after unused

    abbrev pub ends_with : EndStates
    ends_with = record { needs_input = λ k. (k ≡ 0) × Waits new; finished = HasFinished new; spent = spent; write_failed = write_failed }

    abbrev pub Ran : Result (Unit {0}) RunFault → Type 0
    Ran result = RanOver receiver_states ends_with (λ k. k ≡ 0) result old new (one_input before) (one_input after)
        (three_outputs out pack progress) (three_outputs out_after pack_after progress_after)

    abbrev Answers : Result (Unit {0}) RunFault → Type 0
    Answers result = ReceivesMessage result (has_ended reader_after) old.client.now new.client.now waiting unused
        (flow (remaining (inner_of reader)) (remaining (inner_of reader_after))) (flow out out_after) (flow pack pack_after)
        (flow progress progress_after)

    module _ (result : Result (Unit {0}) RunFault) (ran : Ran result) where
      abbrev trace : List Move
      trace = ran.went.trace

      last : HasReceived (received_after (received_first old.client.now no_counts) trace) new
      last = ran.went.reaches.0 (received_first old.client.now no_counts) begun

      ended_so : has_ended reader_after ≡ ended_after 0 false trace
      ended_so = ran.went.ended 0 ∙ ap (λ (b : Bool). ended_after 0 b trace) open_ended

      -- some of the bytes were received, and all that they give was written, or a write failed
      arrived : (broken : Bool) → WrittenAs broken (flow out out_after) (given_to 0 trace) → WrittenAs broken (flow pack pack_after) (given_to 1 trace)
          → WrittenAs broken (flow progress progress_after) (given_to 2 trace) → (broken ≡ false → HasGivenAll new)
          → ReceivesFirst broken old.client.now new.client.now waiting unused (flow (remaining (inner_of reader)) (remaining (inner_of reader_after)))
          (flow out out_after) (flow pack pack_after) (flow progress progress_after)
      arrived broken lines packed reported none = record {
        used = used_of 0 trace;
        counts = new.counts;
        read = (ran.went.used 0).left;
        bytes = record {
          events = last.bytes.events;
          arrives = last.bytes.arrives;
          one_turn = last.bytes.one_turn;
          has_unsent = last.bytes.has_unsent;
          counted = last.bytes.counted;
          announced = λ can. given_out broken (flow out out_after) (given_to 0 trace) (lines_in new.lends_lines new.lines.now) _
              (last.bytes.announced can) (λ e. ap (λ (b : Bool). lines_in b new.lines.now) (none e).unlent ∙ (none e).lines) lines;
          sent = given_out broken (flow pack pack_after) (given_to 1 trace) _ _ last.bytes.sent
              (λ e. ap (λ (p : Passing). pack_in p (bytes_in new.passed)) (none e).passed) packed;
          reported = given_out broken (flow progress progress_after) (given_to 2 trace) _ _ last.bytes.reported
              (λ e. ap (λ (p : Passing). progress_in p (bytes_in new.passed)) (none e).passed) reported;
        };
      }

      pub in_time_so : FaultsInTime new.client.now (has_ended reader_after) unused
      in_time_so fault failed = in_time fault.kind (has_ended reader_after) unused (λ cut.
          let over = ended_so ∙ last.truncated fault failed cut in
          ((ran.went.used 0).emptied (λ e. let no : true ≡ false = sym e ∙ open_ended in absurd (cc)) over, over))
          (λ long. some_left unused (elim (ran.went.short tt 0 (refl, subst IsTooLong (sym failed) long)) [
            | inl more ↦ more
            | inr early ↦ absurd (waits_in_time old waits early.0.1)
          ]))

      pub never_ended : fault_of new.client.now ≡ None → has_ended reader_after ≡ false
      never_ended sound = not_true (has_ended reader_after) (λ ended.
          let (fault, failed) = last.closed (sym ended_so ∙ ended) in let no : None ≡ Some fault = sym sound ∙ failed in absurd (cc))

    at_first : (from : ℕ) → WaitsFor (λ k. (k ≡ 0) × Waits new) (one_input after) from → WaitsFor (λ k. (k ≡ 0) × Waits new) (one_input after) 0
    at_first from waiting_on = subst (λ (n : ℕ). WaitsFor (λ k. (k ≡ 0) × Waits new) (one_input after) n) waiting_on.needs.0 waiting_on

    interrupted : (result : Result (Unit {0}) RunFault) (ran : Ran result) (from : ℕ) → WaitsFor (λ k. (k ≡ 0) × Waits new) (one_input after) from
        → ((k : ℕ) → WrittenAs false (flow (three_outputs out pack progress k) (three_outputs out_after pack_after progress_after k))
        (given_to k ran.went.trace))
        → Answers (Err ReadFault)
    interrupted result ran from waiting_on written =
        let first = at_first from waiting_on in
        record {
          arrives = arrived result ran false (written 0) (written 1) (written 2) (λ e. first.needs.1.given);
          all = first.all;
          expected = first.needs.1.expected;
        }

    -- the run failed
    pub answers_failed : (fault : RunFault) → Ran (Err fault) → Answers (Err fault)
    answers_failed ReadFault ran = let (from, waiting_on, failed) = ran.ends in interrupted (Err ReadFault) ran from waiting_on ran.went.written
    answers_failed WriteFault ran = record {
      arrives = arrived (Err WriteFault) ran true (ran.went.written 0) (ran.went.written 1) (ran.went.written 2) (λ e. absurd (cc));
      timely = in_time_so (Err WriteFault) ran;
    }
    answers_failed ReadLimit ran = let (from, waiting_on, all) = ran.ends in interrupted (Err ReadLimit) ran from waiting_on ran.went.written
    answers_failed (Refused fault) ran = absurd ran.ends

    module _ (ran : Ran (Ok tt)) where
      all_arrived : ReceivesFirst false old.client.now new.client.now waiting unused
          (flow (remaining (inner_of reader)) (remaining (inner_of reader_after))) (flow out out_after) (flow pack pack_after) (flow progress progress_after)
      all_arrived =
          arrived (Ok tt) ran false (ran.went.written 0) (ran.went.written 1) (ran.went.written 2) (λ e. ran.ends.given)

      -- the message was received whole
      pub answers_whole : fault_of new.client.now ≡ None → Answers (Ok tt)
      answers_whole sound = record { arrives = all_arrived; can_ask_on = (last (Ok tt) ran).whole ran.ends.over sound }

      -- the bytes have an error
      pub answers_refused : (fault : Fault) → fault_of new.client.now ≡ Some fault → Answers (Err (Refused fault))
      answers_refused fault failed = record { arrives = all_arrived; announced = failed; timely = in_time_so (Ok tt) ran fault failed }

    -- ---- which streams failed

    pub fails_so : (result : Result (Unit {0}) RunFault) → Ran result → FailsAs result (has_failed reader_after) write_failed
    fails_so (Ok done) ran = (ran.failed.0 0 refl, ran.failed.1)
    fails_so (Err ReadFault) ran =
        let alone = ran.failed.0.1 in (subst (λ (n : ℕ). (one_input after n).failed ≡ true) alone.exists alone.failed, ran.failed.1)
    fails_so (Err WriteFault) ran = (ran.failed.0 0 refl, ran.failed.1)
    fails_so (Err ReadLimit) ran = (ran.failed.0 0 refl, ran.failed.1)
    fails_so (Err (Refused fault)) ran = absurd ran.ends

    pub shown_so : (turns : ℕ) → (spent → turns ≤ reads_of reader_after) → reads_of reader_after ≤ turns → (result : Result (Unit {0}) RunFault)
        → Ran result → IfErr result (IsShownBy (IsTrue (has_failed reader_after)) (IsTrue write_failed) (IsSpent reader_after turns))
    shown_so turns all most (Ok done) ran = tt
    shown_so turns all most (Err ReadFault) ran = (fails_so (Err ReadFault) ran).0
    shown_so turns all most (Err WriteFault) ran = (fails_so (Err WriteFault) ran).1
    shown_so turns all most (Err ReadLimit) ran =
        let (from, waiting_on, made) = ran.ends in
        record { reads = omega (arith, all made, most); open_ended = (at_first from waiting_on).still_open }
    shown_so turns all most (Err (Refused fault)) ran = absurd ran.ends

    -- ---- what `?` returns

    module _ (result : Result (Unit {0}) RunFault) (fault : RunFault) (answered : IsErrAnd result (λ e. e ≡ fault)) (ran : Ran (Err fault)) where
      pub answers_at : Answers result
      answers_at = at_fault result fault fault Answers refl answered (answers_failed fault ran)

      pub fails_at : FailsAs result (has_failed reader_after) write_failed
      fails_at = at_fault result fault fault (λ (r : Result (Unit {0}) RunFault). FailsAs r (has_failed reader_after) write_failed) refl answered
          (fails_so (Err fault) ran)

      pub shown_at : (turns : ℕ) → (spent → turns ≤ reads_of reader_after) → reads_of reader_after ≤ turns
          → IfErr result (IsShownBy (IsTrue (has_failed reader_after)) (IsTrue write_failed) (IsSpent reader_after turns))
      shown_at turns all most =
          at_fault result fault fault
          (λ (r : Result (Unit {0}) RunFault).
          IfErr r (IsShownBy (IsTrue (has_failed reader_after)) (IsTrue write_failed) (IsSpent reader_after turns))) refl answered
          (shown_so turns all most (Err fault) ran)

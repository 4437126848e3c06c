-- What a run of a judge over both streams came to, as a check states it.
use Rattle.std.proofs.Common.{◌≡◌, ◌≢◌, ◌⊎◌, inl, inr, ℕ, ◌||◌, Bool, true, false, List, [], ◌∷◌, ◌++◌, Option, Some, Result, Ok, Err, IfErr}
use Rattle.std.proofs.Common.{refl, sym, subst, ap, ◌∙◌, append_assoc, append-nil}
use Rattle.git_pkt.specs.Machine.Engine.{FailsAs, IsShownBy}
use Rattle.git_pkt.specs.Machine.Recorded.{inner_of, has_failed}
use Rattle.git_pkt.specs.Streams.{AreWritten, Flow, Moves, StreamRelation, flow, is_broken}
use Rattle.git_pkt.specs.declared.fault.RunFault.{RunFault}
use Rattle.git_pkt.specs.declared.fault.RunFault.TheVariants.{ReadFault as RunReadFault, WriteFault as RunWriteFault, ReadLimit as RunReadLimit, Refused}
use Rattle.git_pkt.specs.declared.recorded.Recorded.{Recorded}
use Rattle.git_pkt.proofs.EngineLemmas.{AppendsFront-longer}
use Rattle.git_loop.specs.Moves.{ended_after, given_to, used_of}
use Rattle.git_loop.specs.Streams.{InputState, recorded_input}
use Rattle.git_loop.specs.TwoStreams.{IsOneOfTwo, RanBoth, RanTwo}
use Rattle.git_client.specs.Parts.{Terms}
use Rattle.git2show_lib.specs.Machine.CheckFaults.{Standing, run_fault, run_result, standing_of}
use Rattle.git2show_lib.specs.Machine.CheckedStreams.{Checked, of_responses}
use Rattle.git2show_lib.specs.Machine.Checker.{Fed, StandsIn, first_of, is_needed, is_opened, needed_in, needed_of, nothing_fed}
use Rattle.git2show_lib.specs.Machine.Checker.{unfailed, verdict_of, waiting_in}
use Rattle.git2show_lib.specs.Machine.CheckerTurns.{FitsTurn, IsVerdict, number_of}
use Rattle.git2show_lib.specs.Machine.JudgingStates.{HasFinished, Judges, NeedsInput, judging_states, lent_in}
use Rattle.git2show_lib.specs.Machine.KeptLines.{noted_in}
use Rattle.git2show_lib.specs.declared.checker.Checker.{Checker}
use Rattle.git2show_lib.specs.declared.checker.Needed.TheVariants.{Input, Nothing}
use Rattle.git2show_lib.specs.declared.checker.Stream.{Stream}
use Rattle.git2show_lib.specs.declared.checker.Stream.TheVariants.{Requests as OfRequests, Responses as OfResponses}
use Rattle.git2show_lib.specs.declared.checker.Turn.{Turn}
use Rattle.git2show_lib.specs.declared.checker.Turn.TheVariants.{Opening, Request, Response, Sieved, Passing, End, Over}
use Rattle.git2show_lib.specs.declared.checking.CheckFault.{CheckFault}
use Rattle.git2show_lib.specs.declared.checking.CheckFault.TheVariants.{Requests, Responses, ReadFault, WriteFault, ReadLimit}
use Rattle.git2show_lib.specs.declared.judging.Judging.{Judging}
use Rattle.git2show_lib.proofs.CheckerBroken.{broken_in, cut_off_before, cut_off_in, judged_broken}
use Rattle.git2show_lib.proofs.CheckerCalls.{needed_is, needs, opened_where_needed, quiet}
use Rattle.git2show_lib.proofs.CheckerCut.{CutsOff, cut_by_fault, cut_by_limit}
use Rattle.git2show_lib.proofs.CheckerStands.{judged, still_open, verdict_is}

-- ---- the lines that were not given yet

waiting_behind : (lines others : List ℕ) → (rest : List ℕ) × (lines ++ others ≡ first_of lines others ++ rest)
waiting_behind [] others = ([], sym (append-nil others))
waiting_behind (byte ∷ lines) others = (others, refl)

-- a stream that ended so, without a read that failed
same_standing : (s : Standing) (ended : Bool) → s.ended ≡ ended → s.failed ≡ false → unfailed ended ≡ s
same_standing s ended is sound =
    ap (λ (b : Bool). record { ended = b; failed = false }) (sym is) ∙ ap (λ (b : Bool). record { ended = s.ended; failed = b }) (sym sound)

first_stream : (stream : Stream) → 0 ≡ number_of stream → stream ≡ OfRequests
first_stream OfRequests is = refl
first_stream OfResponses is = absurd (cc)

second_stream : (stream : Stream) → 1 ≡ number_of stream → stream ≡ OfResponses
second_stream OfRequests is = absurd (cc)
second_stream OfResponses is = refl

needs_something : (turn : Turn) (stream : Stream) → needed_in turn ≡ Input stream → needed_in turn ≢ Nothing
needs_something turn stream is none = absurd (cc)

module _ {A : Type 0} where
  not_given : (lends : Bool) (c : Checker A) → (rest : List ℕ) × (waiting_in c ≡ lent_in lends c ++ rest)
  not_given true c = waiting_behind c.lines (noted_in c.others).lines
  not_given false c = (waiting_in c, refl)

  -- ---- a judge that used all that came of both streams but what waits

  module _ {t : Terms} {limit : ℕ} (j : Judging A) {requests responses : Fed} {given : List ℕ} (judges : Judges t limit requests responses given j)
      (of_requests of_responses : Standing) (w v : List ℕ) (requests_end : requests.closed ≡ true → w ≡ []) (responses_end : responses.closed ≡ true → v ≡ [])
      (opened : (is_opened j.checker ≡ true) ⊎ (w ≡ [])) (ended : of_requests.ended ≡ requests.closed)
      (other_ended : of_responses.ended ≡ responses.closed) where
    abbrev Shows : Result (Unit {0}) CheckFault → List ℕ → Type 0
    Shows result lines = Checked A t limit result of_requests of_responses ((requests.bytes ++ w) ∷ (responses.bytes ++ v) ∷ []) (lines ∷ [])

    unopened : j.checker.opened ≡ false → w ≡ []
    unopened closed = elim opened [
      | inl is ↦ let no : false ≡ true = sym closed ∙ is in absurd (cc)
      | inr none ↦ none
    ]

    -- its lines, and those that wait
    further : (rest : List ℕ) × (judges.taken ++ waiting_in j.checker ≡ given ++ rest)
    further =
        let (rest, is) = not_given j.lends j.checker in (
          rest,
          ap (λ (l : List ℕ). judges.taken ++ l) is ∙ sym (append_assoc judges.taken (lent_in j.lends j.checker) rest)
              ∙ ap (λ (l : List ℕ). l ++ rest) (sym judges.given_is),
        )

    -- all of them
    all_given : j.lends ≡ false → waiting_in j.checker ≡ [] → judges.taken ++ waiting_in j.checker ≡ given
    all_given none no_more =
        ap (λ (l : List ℕ). judges.taken ++ l) no_more ∙ ap (λ (b : Bool). judges.taken ++ lent_in b j.checker) (sym none) ∙ sym judges.given_is

    -- it has a verdict
    pub judged_so : HasFinished j → (result : Result (Unit {0}) CheckFault) → verdict_of j.checker ≡ Some result → of_requests.failed ≡ false
        → of_responses.failed ≡ false → Shows result given
    judged_so finished result is sound other_sound =
        let over = judged t limit requests responses judges.taken j.checker result judges.checks finished.nothing_needed is in
        let checked = over w v (record { unopened = unopened; requests_end = requests_end; responses_end = responses_end }) in
        let lines : judges.taken ≡ given =
        sym (append-nil judges.taken) ∙ ap (λ (b : Bool). judges.taken ++ lent_in b j.checker) (sym finished.all_given) ∙ sym judges.given_is in
        subst (λ (l : List ℕ). Shows result l) lines
        (subst (λ (s : Standing). Checked A t limit result s of_responses ((requests.bytes ++ w) ∷ (responses.bytes ++ v) ∷ []) (judges.taken ∷ []))
        (same_standing of_requests requests.closed ended sound)
        (subst (λ (s : Standing). Checked A t limit result (unfailed requests.closed) s ((requests.bytes ++ w) ∷ (responses.bytes ++ v) ∷ [])
        (judges.taken ∷ [])) (same_standing of_responses responses.closed other_ended other_sound) checked))

    -- a write failed
    pub broken_so : (rest : List ℕ) × Shows (Err WriteFault) (given ++ rest)
    broken_so =
        let (rest, is) = further in
        (rest, subst (λ (l : List ℕ). Shows (Err WriteFault) l) is (at j.checker.turn judges.checks.stands)) where
          c : Checker A
          c = j.checker

          at : (turn : Turn) → StandsIn turn t limit requests.bytes responses.bytes (judges.taken ++ waiting_in c) c
              → Shows (Err WriteFault) (judges.taken ++ waiting_in c)
          at Opening s = broken_in requests.bytes responses.bytes Opening c of_requests of_responses w v refl unopened s
          at Request s = broken_in requests.bytes responses.bytes Request c of_requests of_responses w v refl unopened s
          at Response s = broken_in requests.bytes responses.bytes Response c of_requests of_responses w v refl unopened s
          at (Sieved start) s = broken_in requests.bytes responses.bytes (Sieved start) c of_requests of_responses w v refl unopened s
          at Passing s = broken_in requests.bytes responses.bytes Passing c of_requests of_responses w v refl unopened s
          at End s = broken_in requests.bytes responses.bytes End c of_requests of_responses w v refl unopened s
          at (Over result) s = judged_broken requests.bytes responses.bytes of_requests of_responses s (record {
            unopened = unopened;
            requests_end = λ e. requests_end (sym judges.checks.requests_closed ∙ e);
            responses_end = λ e. responses_end (sym judges.checks.responses_closed ∙ e);
          })

    module _ (result : Result (Unit {0}) CheckFault) {P S : Type 0} (cuts : CutsOff A t limit result of_requests of_responses P S) where
      -- no more requests came
      pub cut_before : NeedsInput j 0 → w ≡ [] → of_requests.ended ≡ false → P → Shows result given
      cut_before n none can_come shown =
          let is = needed_is OfRequests (needed_of j.checker)
          (subst (λ (s : Stream). is_needed s (needed_of j.checker) ≡ true) (first_stream n.stream n.is) n.needs) in
          let turn = needs j.checker OfRequests is in
          let open_ended = other_ended ∙ sym judges.checks.responses_closed
          ∙ still_open j.checker j.checker.turn refl (needs_something j.checker.turn OfRequests turn) in
          subst (λ (l : List ℕ). Shows result l) (all_given n.all_given (quiet j.checker OfRequests is))
          (subst (λ (l : List ℕ). Checked A t limit result of_requests of_responses (l ∷ (responses.bytes ++ v) ∷ [])
          ((judges.taken ++ waiting_in j.checker) ∷ [])) (sym (append-nil requests.bytes) ∙ ap (λ (l : List ℕ). requests.bytes ++ l) (sym none))
          (cut_off_before requests.bytes responses.bytes result of_requests of_responses cuts j.checker.turn j.checker v turn shown can_come open_ended
          judges.checks.stands))

      -- or of the responses
      pub cut_in : NeedsInput j 1 → v ≡ [] → S → Shows result given
      cut_in n none shown =
          let is = needed_is OfResponses (needed_of j.checker)
          (subst (λ (s : Stream). is_needed s (needed_of j.checker) ≡ true) (second_stream n.stream n.is) n.needs) in
          let turn = needs j.checker OfResponses is in
          let no_lines = quiet j.checker OfResponses is in
          subst (λ (l : List ℕ). Shows result l) (all_given n.all_given no_lines)
          (subst (λ (l : List ℕ). Checked A t limit result of_requests of_responses ((requests.bytes ++ w) ∷ l ∷ [])
          ((judges.taken ++ waiting_in j.checker) ∷ [])) (sym (append-nil responses.bytes) ∙ ap (λ (l : List ℕ). responses.bytes ++ l) (sym none))
          (cut_off_in requests.bytes responses.bytes result of_requests of_responses cuts j.checker.turn j.checker w turn no_lines shown unopened
          (λ e. requests_end (sym judges.checks.requests_closed ∙ e)) (ended ∙ sym judges.checks.requests_closed) judges.checks.stands))

-- a verdict is one on the conversation
pub verdict_fits : {A : Type 0} (c : Checker A) (verdict : Result (Unit {0}) CheckFault) → verdict_of c ≡ Some verdict → IsVerdict verdict
verdict_fits c verdict is =
    subst (λ (turn : Turn). FitsTurn turn c.opened c.requests_ended c.responses_ended) (verdict_is c.turn verdict is) c.fits

-- ---- a run of a judge

-- how an input was left
abbrev pub standing_in : InputState → Standing
standing_in input = record { ended = input.ended; failed = input.failed }

module _ {A : Type 0} {t : Terms} {limit : ℕ} (old new : Judging A) (begun : Judges t limit nothing_fed nothing_fed [] old) (first second : InputState)
    (opened : (is_opened new.checker ≡ true) ⊎ (first.window ≡ [])) (read written : List (List ℕ)) where
  abbrev Ran : Result (Unit {0}) RunFault → Type 0
  Ran result = RanBoth judging_states (NeedsInput new) (HasFinished new) result old new first second read written

  module _ {result : Result (Unit {0}) RunFault} (ran : Ran result) where
    abbrev of_requests : Fed
    of_requests = record { bytes = used_of 0 ran.trace; closed = ended_after 0 false ran.trace }

    abbrev of_responses_used : Fed
    of_responses_used = record { bytes = used_of 1 ran.trace; closed = ended_after 1 false ran.trace }

    judges_now : Judges t limit of_requests of_responses_used (given_to 0 ran.trace) new
    judges_now = ran.reaches.carries t limit nothing_fed nothing_fed [] begun

    requests_end : ended_after 0 false ran.trace ≡ true → first.window ≡ []
    requests_end e = ran.first_left.whole (ran.first_left.closed ∙ e)

    responses_end : ended_after 1 false ran.trace ≡ true → second.window ≡ []
    responses_end e = ran.second_left.whole (ran.second_left.closed ∙ e)

    -- what was read, and what was written
    as_read : {verdict : Result (Unit {0}) CheckFault} (lines : List ℕ)
        → Checked A t limit verdict (standing_in first) (standing_in second)
        ((used_of 0 ran.trace ++ first.window) ∷ (used_of 1 ran.trace ++ second.window) ∷ []) (lines ∷ [])
        → Checked A t limit verdict (standing_in first) (standing_in second) read (lines ∷ [])
    as_read {verdict} lines checked =
        subst (λ (l : List (List ℕ)). Checked A t limit verdict (standing_in first) (standing_in second) l (lines ∷ [])) (sym ran.received) checked

    as_written : {verdict : Result (Unit {0}) CheckFault}
        → Checked A t limit verdict (standing_in first) (standing_in second)
        ((used_of 0 ran.trace ++ first.window) ∷ (used_of 1 ran.trace ++ second.window) ∷ []) (given_to 0 ran.trace ∷ [])
        → Checked A t limit verdict (standing_in first) (standing_in second) read written
    as_written {verdict} checked =
        subst (λ (l : List (List ℕ)). Checked A t limit verdict (standing_in first) (standing_in second) read l) (sym ran.sent)
        (as_read (given_to 0 ran.trace) checked)

  -- the judge finished
  judged_run : (verdict : Result (Unit {0}) CheckFault) → verdict_of new.checker ≡ Some verdict → first.failed ≡ false → second.failed ≡ false → Ran (Ok tt)
      → Checked A t limit verdict (standing_in first) (standing_in second) read written
  judged_run verdict is sound other_sound ran =
      as_written ran (judged_so new (judges_now ran) (standing_in first) (standing_in second) first.window second.window (requests_end ran)
      (responses_end ran) opened ran.first_left.closed ran.second_left.closed ran.ends verdict is sound other_sound)

  -- a read failed
  unread_run : Ran (Err RunReadFault) → Checked A t limit (Err ReadFault) (standing_in first) (standing_in second) read written
  unread_run ran =
      let q : Standing = standing_in first in
      let s : Standing = standing_in second in
      as_written ran (elim ran.ends [
        | inl (waits, failed) ↦ cut_before new (judges_now ran) q s first.window second.window (requests_end ran) (responses_end ran) opened
            ran.first_left.closed ran.second_left.closed (Err ReadFault) (cut_by_fault A t limit q s) waits.needs waits.all waits.still_open failed
        | inr (waits, failed) ↦ cut_in new (judges_now ran) q s first.window second.window (requests_end ran) (responses_end ran) opened
            ran.first_left.closed ran.second_left.closed (Err ReadFault) (cut_by_fault A t limit q s) waits.needs waits.all failed
      ])

  -- or one more would be needed
  limited_run : Ran (Err RunReadLimit) → Checked A t limit (Err ReadLimit) (standing_in first) (standing_in second) read written
  limited_run ran =
      let q : Standing = standing_in first in
      let s : Standing = standing_in second in
      as_written ran (elim ran.ends [
        | inl waits ↦ cut_before new (judges_now ran) q s first.window second.window (requests_end ran) (responses_end ran) opened
            ran.first_left.closed ran.second_left.closed (Err ReadLimit) (cut_by_limit A t limit q s) waits.needs waits.all waits.still_open tt
        | inr waits ↦ cut_in new (judges_now ran) q s first.window second.window (requests_end ran) (responses_end ran) opened
            ran.first_left.closed ran.second_left.closed (Err ReadLimit) (cut_by_limit A t limit q s) waits.needs waits.all waits.still_open
      ])

  -- or a write failed: more lines may have waited
  unwritten_run : Ran (Err RunWriteFault) → (lines : List ℕ) × (rest : List ℕ) × (written ≡ lines ∷ [])
      × Checked A t limit (Err WriteFault) (standing_in first) (standing_in second) read ((lines ++ rest) ∷ [])
  unwritten_run ran =
      let (rest, checked) = broken_so new (judges_now ran) (standing_in first) (standing_in second) first.window second.window (requests_end ran)
      (responses_end ran) opened ran.first_left.closed ran.second_left.closed in
      (given_to 0 ran.trace, rest, ran.sent, as_read ran (given_to 0 ran.trace ++ rest) checked)

-- ---- over readers and a writer

moves_as : {P S : StreamRelation} {broken : Bool} {readers writers : List Flow} → ((read written : List (List ℕ)) → P read written → S read written)
    → Moves broken P readers writers → Moves broken S readers writers
moves_as f m = record { used = m.used; given = m.given; read = m.read; written = m.written; related = f m.used m.given m.related }

-- of what is written only a prefix may have been
moves_longer : {P S : StreamRelation} {readers : List Flow} {writer : Flow}
    → ((read written : List (List ℕ)) → P read written → (lines : List ℕ) × (rest : List ℕ) × (written ≡ lines ∷ []) × S read ((lines ++ rest) ∷ []))
    → Moves true P readers (writer ∷ []) → Moves true S readers (writer ∷ [])
moves_longer {readers = readers} {writer} f m =
    let (lines, rest, is, shown) = f m.used m.given m.related in
    record {
      used = m.used;
      given = (lines ++ rest) ∷ [];
      read = m.read;
      written = longer lines rest (subst (λ (l : List (List ℕ)). AreWritten true (writer ∷ []) l) is m.written);
      related = shown;
    }
  where
    longer : (lines rest : List ℕ) → AreWritten true (writer ∷ []) (lines ∷ []) → AreWritten true (writer ∷ []) ((lines ++ rest) ∷ [])
    longer lines rest (front, end) = (AppendsFront-longer writer.before writer.after lines rest front, tt)

-- what is reported of a fault of a run is that fault
same_fault : (fault : RunFault) → run_fault (of_responses fault) ≡ fault
same_fault RunReadFault = refl
same_fault RunWriteFault = refl
same_fault RunReadLimit = refl
same_fault (Refused fault) = refl

-- no verdict is a failed read or write
pub verdict_fails : (verdict : Result (Unit {0}) CheckFault) {read_failed write_failed : Bool} → IsVerdict verdict
    → FailsAs {T = Unit {0}} (Ok tt) read_failed write_failed → FailsAs (run_result verdict) read_failed write_failed
verdict_fails (Ok done) is sound = sound
verdict_fails (Err (Requests fault)) is sound = sound
verdict_fails (Err (Responses fault)) is sound = sound
verdict_fails (Err ReadFault) is sound = absurd is
verdict_fails (Err WriteFault) is sound = absurd is
verdict_fails (Err ReadLimit) is sound = absurd is

pub verdict_shown : (verdict : Result (Unit {0}) CheckFault) (R W S : Type 0) → IsVerdict verdict
    → IfErr verdict (λ fault. IsShownBy R W S (run_fault fault))
verdict_shown (Ok done) R W S is = tt
verdict_shown (Err (Requests fault)) R W S is = tt
verdict_shown (Err (Responses fault)) R W S is = tt
verdict_shown (Err ReadFault) R W S is = absurd is
verdict_shown (Err WriteFault) R W S is = absurd is
verdict_shown (Err ReadLimit) R W S is = absurd is

neither : (a b : Bool) → (a || b) ≡ false → (a ≡ false) × (b ≡ false)
neither true b none = absurd (cc)
neither false b none = (refl, none)

verdict_moves : (verdict : Result (Unit {0}) CheckFault) {P : StreamRelation} {readers writers : List Flow} → IsVerdict verdict
    → Moves false P readers writers → Moves (is_broken (run_result verdict)) P readers writers
verdict_moves (Ok done) is m = m
verdict_moves (Err (Requests fault)) is m = m
verdict_moves (Err (Responses fault)) is m = m
verdict_moves (Err ReadFault) is m = absurd is
verdict_moves (Err WriteFault) is m = absurd is
verdict_moves (Err ReadLimit) is m = absurd is

module _ {A : Type 0} {t : Terms} {limit : ℕ} (old new : Judging A) (begun : Judges t limit nothing_fed nothing_fed [] old) {Q R O : Type 0}
    (of_first : Q → Option (List ℕ)) (of_second : R → Option (List ℕ)) (contents : O → Option (List ℕ)) (first first_after : Recorded Q)
    (second second_after : Recorded R) (w v : List ℕ) (out out_after : Recorded O) (opened : (is_opened new.checker ≡ true) ⊎ (w ≡ [])) where
  abbrev requests_after : InputState
  requests_after = recorded_input of_first first_after w

  abbrev responses_after : InputState
  responses_after = recorded_input of_second second_after v

  abbrev RanSo : Result (Unit {0}) RunFault → Type 0
  RanSo result = RanTwo of_first of_second contents judging_states (NeedsInput new) (HasFinished new) result old new first first_after second second_after
      w v out out_after

  abbrev CheckedSo : Result (Unit {0}) CheckFault → Type 0
  CheckedSo result = Moves (is_broken (run_result result)) (Checked A t limit result (standing_of first_after) (standing_of second_after))
      (flow (of_first (inner_of first)) (of_first (inner_of first_after)) ∷ flow (of_second (inner_of second)) (of_second (inner_of second_after)) ∷ [])
      (flow (contents (inner_of out)) (contents (inner_of out_after)) ∷ [])

  pub checked_judged : (verdict : Result (Unit {0}) CheckFault) → verdict_of new.checker ≡ Some verdict
      → (has_failed first_after || has_failed second_after) ≡ false → RanSo (Ok tt) → CheckedSo verdict
  checked_judged verdict is none ran =
      let fits = verdict_fits new.checker verdict is in
      let (sound, other_sound) = neither (has_failed first_after) (has_failed second_after) none in
      verdict_moves verdict fits (moves_as (λ read written both. judged_run old new begun requests_after responses_after opened read written verdict is
      sound other_sound both) ran)

  pub checked_stopped : (fault : RunFault) → RanSo (Err fault) → CheckedSo (Err (of_responses fault))
  checked_stopped RunReadFault ran = moves_as (unread_run old new begun requests_after responses_after opened) ran
  checked_stopped RunWriteFault ran = moves_longer (unwritten_run old new begun requests_after responses_after opened) ran
  checked_stopped RunReadLimit ran = moves_as (limited_run old new begun requests_after responses_after opened) ran
  checked_stopped (Refused fault) ran = absurd ran.related.ends

-- ---- how a run ended, as it is reported

pub stopped_fails : (fault : RunFault) (read_failed write_failed : Bool) → FailsAs {T = Unit {0}} (Err fault) read_failed write_failed
    → FailsAs (run_result {T = Unit {0}} (Err (of_responses fault))) read_failed write_failed
stopped_fails fault read_failed write_failed fails =
    subst (λ (f : RunFault). FailsAs {T = Unit {0}} (Err f) read_failed write_failed) (sym (same_fault fault)) fails

pub stopped_shown : (fault : RunFault) (R W S : Type 0) → IsShownBy R W S fault → IsShownBy R W S (run_fault (of_responses fault))
stopped_shown fault R W S shown = subst (λ (f : RunFault). IsShownBy R W S f) (sym (same_fault fault)) shown

pub needs_one_of_two : {A : Type 0} (j : Judging A) (k : ℕ) → NeedsInput j k → IsOneOfTwo k
needs_one_of_two j k needs = at needs.stream needs.is where
  at : (stream : Stream) → k ≡ number_of stream → IsOneOfTwo k
  at OfRequests is = inl is
  at OfResponses is = inr is

-- a judge that needs requests has received a whole advertisement
pub opened_where_read : {A : Type 0} (j : Judging A) → NeedsInput j 0 → is_opened j.checker ≡ true
opened_where_read j needs =
    opened_where_needed j.checker (subst (λ (s : Stream). is_needed s (needed_of j.checker) ≡ true) (first_stream needs.stream needs.is) needs.needs)

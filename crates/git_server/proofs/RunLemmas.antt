-- A run of a server: what the machine's states at both ends mean for its session.
use Rattle.std.proofs.Common.{◌≡◌, ◌≢◌, inl, inr, ℕ, Bool, true, false, List, [], ◌∷◌, ◌++◌, length, Result, Ok, Err, IsErrAnd, IfErr, Some}
use Rattle.std.proofs.Common.{ap, ◌∙◌, refl}
use Rattle.git_loop.specs.Machines.{EndsRun, HasFinished as RunHasFinished, IsWaiting, Ran, RunStates}
use Rattle.git_loop.specs.Moves.{ended_after, given_to, used_of}
use Rattle.git_pkt.specs.Faults.{last_position}
use Rattle.git_pkt.specs.Streams.{Flow, Moves, is_broken}
use Rattle.git_pkt.specs.declared.fault.RunFault.{RunFault}
use Rattle.git_pkt.specs.declared.fault.RunFault.TheVariants.{ReadFault, WriteFault, ReadLimit, Refused as RefusedRun}
use Rattle.git_pkt.proofs.EngineLemmas.{at_fault}
use Rattle.git_server.specs.Repository.{RepoState}
use Rattle.git_server.specs.Sessions.{Setting, IsSession}
use Rattle.git_server.specs.Machine.Moved.{HasFinished, IsOfASession, IsTooLong, ServerReaches}
use Rattle.git_server.specs.Machine.Phases.{turn_in}
use Rattle.git_server.specs.Machine.Runs.{EndsRun as EndsSession, IsWholeRun, Served, Waits}
use Rattle.git_server.specs.Machine.Server.{Running, outcome_of, wants_input}
use Rattle.git_server.specs.declared.outcome.Outcome.{Outcome}
use Rattle.git_server.specs.declared.outcome.Outcome.TheVariants.{Refused}
use Rattle.git_server.specs.declared.server.Server.{Server}
use Rattle.git_server.specs.declared.server.Turn.TheVariants.{Finished}
use Rattle.git_server.proofs.SessionLaws.{all_answered, ending, ends_now, every_moment}
use Rattle.git_server.proofs.TooLong.{refused_too_long}

module _ {R A : Type 0} (state : R → RepoState) (old new : Server R A) (ended : Bool) (turns : ℕ) where
  -- what a run's clauses state of the server
  abbrev pub run_states : RunStates
  run_states = record {
    needs_input = (◌≡◌ {A = ℕ} 0 0) × (wants_input new ≡ true);
    finished = HasFinished new;
    stopped_short = IsOfASession state old × ((◌≡◌ {A = ℕ} 0 0) × IsTooLong (outcome_of new));
    stopped_short_before = (◌≡◌ {A = ℕ} 0 0) × IsTooLong (outcome_of old);
  }

  abbrev pub RanSo : Result (Unit {0}) RunFault → Flow → Flow → Type 0
  RanSo result reader writer =
      Moves (is_broken result) (Ran (ServerReaches state) old new run_states result ended turns) (reader ∷ []) (writer ∷ [])

  abbrev pub ServedSo : Result Outcome RunFault → Flow → Flow → Type 0
  ServedSo answer reader writer = (s : Setting) (before given : List ℕ) → Running state s before false given old
      → Moves (is_broken answer) (Served state s before given answer ended turns new) (reader ∷ []) (writer ∷ [])

  module _ (s : Setting) (before given : List ℕ) (r : Running state s before false given old) where
    moved_so : (broken : Bool) (result : Result (Unit {0}) RunFault) (answer : Result Outcome RunFault) {reader writer : Flow}
        → ((used unused : List ℕ) (over : Bool) (content : List ℕ) → Running state s (before ++ used) over (given ++ content) new
        → EndsRun result run_states turns used unused over → EndsSession s answer turns before used unused over (given ++ content))
        → Moves broken (Ran (ServerReaches state) old new run_states result ended turns) (reader ∷ []) (writer ∷ [])
        → Moves broken (Served state s before given answer ended turns new) (reader ∷ []) (writer ∷ [])
    moved_so broken result answer ends ran =
        let x = ran.related in
        let bytes = used_of 0 x.trace in
        let over = ended_after 0 false x.trace in
        let content = given_to 0 x.trace in
        let stands = x.reaches s before false given r in
        record {
          used = ran.used;
          given = ran.given;
          read = ran.read;
          written = ran.written;
          related = record {
            used = bytes;
            unused = x.unused;
            over = over;
            content = content;
            arrived = x.received;
            announced = x.sent;
            stands = stands;
            whole = x.whole;
            ends = ends bytes x.unused over content stands x.ends;
          };
        }

    -- if it needs input, all answers were sent
    waits : (used unused : List ℕ) (over : Bool) (content : List ℕ) → Running state s (before ++ used) over (given ++ content) new
        → IsWaiting run_states unused over → Waits s (before ++ used) unused over (given ++ content)
    waits used unused over content stands rests = record {
      all = rests.all;
      goes_on = rests.still_open;
      answered = all_answered state new s (before ++ used) over (given ++ content) stands rests.needs_input.1;
    }

    -- the session ended so
    whole : (outcome : Outcome) → turn_in new.phase ≡ Finished outcome → (used unused : List ℕ) (over : Bool) (content : List ℕ)
        → Running state s (before ++ used) over (given ++ content) new → RunHasFinished run_states unused
        → IsWholeRun s outcome before used unused over (given ++ content)
    whole outcome turn used unused over content stands rests =
        let announces = (ends_now state new outcome turn).announces in
        let session : IsSession s (before ++ used) over (given ++ content) outcome = announces.3 s (before ++ used) over (given ++ content) stands in
        let here : IsOfASession state old = record { s = s; used = before; over = false; given = given; running = r } in
        record {
          session = session;
          in_time = λ fault is too_long.
              elim (rests.short (here, (refl, (fault, announces.0 ∙ ap Some is, too_long)))) [
                | inl more ↦ inl more
                | inr early ↦ inr (used_before early.1)
              ];
        }
      where
        used_before : IsTooLong (outcome_of old) → length before ≡ last_position
        used_before (fault, is, name) =
            let (unsent, end) = ending state old s before false given r (Refused fault) is in
            (refused_too_long s false end.left end.rest (length before) fault end.ends name).1

  -- the session ended
  pub serves : (outcome : Outcome) {reader writer : Flow} → turn_in new.phase ≡ Finished outcome → RanSo (Ok tt) reader writer
      → ServedSo (Ok outcome) reader writer
  serves outcome turn ran s before given r = moved_so s before given r false (Ok tt) (Ok outcome) (whole s before given r outcome turn) ran

  -- a read or a write failed, or the reads were spent
  pub breaks : (fault : RunFault) {reader writer : Flow} → RanSo (Err fault) reader writer → ServedSo (Err fault) reader writer
  breaks ReadFault ran s before given r = moved_so s before given r false (Err ReadFault) (Err ReadFault) (waits s before given r) ran
  breaks WriteFault ran s before given r =
      moved_so s before given r true (Err WriteFault) (Err WriteFault)
      (λ used unused over content stands ends. every_moment state new s (before ++ used) over (given ++ content) stands) ran
  breaks ReadLimit ran s before given r =
      moved_so s before given r false (Err ReadLimit) (Err ReadLimit)
      (λ used unused over content stands ends. (waits s before given r used unused over content stands ends.0, ends.1)) ran
  breaks (RefusedRun fault) ran s before given r = absurd ran.related.ends

  pub waits_after : (fault : RunFault) {reader writer : Flow} → RanSo (Err fault) reader writer → fault ≢ WriteFault → wants_input new ≡ true
  waits_after ReadFault ran other = ran.related.ends.needs_input.1
  waits_after WriteFault ran other = absurd (other refl)
  waits_after ReadLimit ran other = ran.related.ends.0.needs_input.1
  waits_after (RefusedRun fault) ran other = absurd ran.related.ends

  -- the fault that `?` returns is the one that it met
  pub serves_at : (answer : Result Outcome RunFault) (fault : RunFault) {reader writer : Flow} → IsErrAnd answer (λ e. e ≡ fault)
      → RanSo (Err fault) reader writer → ServedSo answer reader writer
  serves_at answer fault {reader} {writer} answered ran =
      at_fault answer fault fault (λ (x : Result Outcome RunFault). ServedSo x reader writer) refl answered (breaks fault ran)

  pub waits_at : (answer : Result Outcome RunFault) (fault : RunFault) {reader writer : Flow} → IsErrAnd answer (λ e. e ≡ fault)
      → RanSo (Err fault) reader writer → IfErr answer (λ e. e ≢ WriteFault → wants_input new ≡ true)
  waits_at answer fault answered ran =
      at_fault answer fault fault (λ (x : Result Outcome RunFault). IfErr x (λ e. e ≢ WriteFault → wants_input new ≡ true)) refl answered
      (waits_after fault ran)

-- A run of a host's server over its store: what the states at both ends mean for its session.
use Rattle.std.proofs.Common.{◌≡◌, ◌≢◌, ℕ, Bool, true, false, List, [], ◌∷◌, ◌++◌, Option, Some, None, Result, Ok, Err, IsErrAnd, IfErr}
use Rattle.std.proofs.Common.{◌⊎◌, inl, inr, IsSome, refl, sym, ap, ◌∙◌, append-nil, subst}
use Rattle.git_loop.specs.Machines.{EndsRun, GivesPart, HasFinished, IsWaiting as RunWaits, Ran, RunStates, StateRelation}
use Rattle.git_loop.specs.Moves.{closed as run_closed, ended_after, gave as run_gave, used as run_used}
use Rattle.git_pkt.specs.Streams.{Flow, Moves, is_broken}
use Rattle.git_pkt.specs.declared.fault.RunFault.{RunFault}
use Rattle.git_pkt.specs.declared.fault.RunFault.TheVariants.{ReadFault, WriteFault, ReadLimit, Refused as RefusedRun}
use Rattle.git_pkt.proofs.EngineLemmas.{at_fault}
use Rattle.git_msg.specs.Asked.{Asked}
use Rattle.git_server.specs.declared.outcome.Outcome.{Outcome}
use Rattle.git_host.specs.HostSessions.{Facts, HostSetting}
use Rattle.git_host.specs.HostServer.{ClosesHost, Hosts, HostsIn, bytes_of, outcome_of, reads_on}
use Rattle.git_store.specs.Hosted.{left_of, server_of, store_of}
use Rattle.git_store.specs.Questions.{Question, Reply}
use Rattle.git_store.specs.StoreMoves.{AllOpen, Move, Reaches, ReachesBy, closed, facts_after, given_in, is_closed, over_after}
use Rattle.git_store.specs.StoreMoves.{over_with, used_in}
use Rattle.git_store.specs.StoreRuns.{EndsStoreRun, ServedStore, WaitsForMore}
use Rattle.git_host.specs.declared.host_server.Phase.{Phase}
use Rattle.git_store.specs.declared.hosted.Hosted.{Hosted}
use Rattle.git_host.proofs.HostCallMoves.{ended_is, waits_so}
use Rattle.git_host.proofs.HostBytes.{is_reading_now}
use Rattle.git_store.proofs.StoreSteps.{any_moves}

none_some : (o : Option Outcome) → o ≡ None → IsSome o → ⊥
none_some None is some = absurd (cc)
none_some (Some outcome) is some = cc

-- ---- whether the input ended

over_open : (move : Move) (over : Bool) → is_closed move ≡ false → over_with move over ≡ over
over_open closed over unclosed = absurd (cc)
over_open move over unclosed = refl

over_all_open : (moves : List Move) (over : Bool) → AllOpen moves → over_after over moves ≡ over
over_all_open [] over unclosed = refl
over_all_open (move ∷ moves) over (here, more) =
    ap (λ (b : Bool). over_after b moves) (over_open move over here) ∙ over_all_open moves over more

module _ {S A : Type 0} (begins : S → Asked → S → Type 0) (replies : S → Question → Reply → S → Type 0) where
  abbrev pub HostedReaches : StateRelation (Hosted S A)
  HostedReaches old trace new = ReachesBy begins replies trace (server_of old) (store_of old) (server_of new) (store_of new)

  module _ (old new : Hosted S A) where
    pub by_quiet : Reaches begins replies [] [] (server_of old) (store_of old) (server_of new) (store_of new) → HostedReaches old [] new
    by_quiet reaches = record {
      moves = reaches.moves;
      made = reaches.made;
      used_are = reaches.used_are;
      given_are = reaches.given_are;
      over_is = λ over. sym (over_all_open reaches.moves over reaches.unclosed);
    }

    pub by_packet : (bytes : List ℕ) → Reaches begins replies [] bytes (server_of old) (store_of old) (server_of new) (store_of new)
        → HostedReaches old (run_gave 0 bytes ∷ []) new
    by_packet bytes reaches = record {
      moves = reaches.moves;
      made = reaches.made;
      used_are = reaches.used_are;
      given_are = append-nil bytes ∙ reaches.given_are;
      over_is = λ over. sym (over_all_open reaches.moves over reaches.unclosed);
    }

    pub gives_first : (to : ℕ) → to ≡ 0
        → Reaches begins replies [] (bytes_of (server_of new)) (server_of old) (store_of old) (server_of new) (store_of new)
        → GivesPart HostedReaches (λ hosted bytes. bytes ≡ bytes_of (server_of hosted)) old to new
    gives_first to first reaches = record {
      bytes = bytes_of (server_of new);
      lent = refl;
      reaches = subst (λ (n : ℕ). HostedReaches old (run_gave n (bytes_of (server_of new)) ∷ []) new) (sym first)
          (by_packet (bytes_of (server_of new)) reaches);
    }

    pub by_bytes : (from : ℕ) (bytes : List ℕ) → from ≡ 0
        → Reaches begins replies bytes [] (server_of old) (store_of old) (server_of new) (store_of new) → HostedReaches old (run_used from bytes ∷ []) new
    by_bytes from bytes first reaches = subst (λ (n : ℕ). HostedReaches old (run_used n bytes ∷ []) new) (sym first) (record {
      moves = reaches.moves;
      made = reaches.made;
      used_are = append-nil bytes ∙ reaches.used_are;
      given_are = reaches.given_are;
      over_is = λ over. sym (over_all_open reaches.moves over reaches.unclosed);
    })

    pub by_close : (from : ℕ) → from ≡ 0 → ClosesHost (server_of old) true (server_of new) → store_of new ≡ store_of old
        → HostedReaches old (run_closed from ∷ []) new
    by_close from first closes kept = subst (λ (n : ℕ). HostedReaches old (run_closed n ∷ []) new) (sym first) (record {
      moves = closed ∷ [];
      made = (server_of new, store_of new, (closes, kept), (refl, refl));
      used_are = refl;
      given_are = refl;
      over_is = λ over. refl;
    })

  module _ (old new : Hosted S A) (ended : Bool) (turns : ℕ) where
    -- what a run's clauses state of the server
    abbrev pub hosted_states : RunStates
    hosted_states = record {
      needs_input = (◌≡◌ {A = ℕ} 0 0) × (reads_on (server_of new) ≡ true);
      finished = IsSome (outcome_of (server_of new)) ⊎ (left_of new ≡ 0);
      stopped_short = Unit {0} × ⊥;
      stopped_short_before = ⊥;
    }

    abbrev pub HostedRan : Result (Unit {0}) RunFault → Flow → Flow → Type 0
    HostedRan result reader writer =
        Moves (is_broken result) (Ran HostedReaches old new hosted_states result ended turns) (reader ∷ []) (writer ∷ [])

    abbrev pub ServedSo : Result (Option Outcome) RunFault → Flow → Flow → Type 0
    ServedSo answer reader writer = (s : HostSetting) (before : List ℕ) (facts : List Facts) (given : List ℕ)
        → Hosts s before false facts given (server_of old)
        → Moves (is_broken answer) (ServedStore begins replies s before facts given answer ended turns (server_of old) (store_of old) (server_of new)
        (store_of new)) (reader ∷ []) (writer ∷ [])

    module _ (s : HostSetting) (before : List ℕ) (facts : List Facts) (given : List ℕ) (h : Hosts s before false facts given (server_of old)) where
      moved_so : (broken : Bool) (result : Result (Unit {0}) RunFault) (answer : Result (Option Outcome) RunFault) {reader writer : Flow}
          → ((moves : List Move) (unused : List ℕ)
          → Hosts s (before ++ used_in moves) (over_after false moves) (facts_after facts moves) (given ++ given_in moves) (server_of new)
          → EndsRun result hosted_states turns (used_in moves) unused (over_after false moves)
          → EndsStoreRun s answer turns before (used_in moves) unused (over_after false moves) (facts_after facts moves) (given ++ given_in moves))
          → Moves broken (Ran HostedReaches old new hosted_states result ended turns) (reader ∷ []) (writer ∷ [])
          → Moves broken (ServedStore begins replies s before facts given answer ended turns (server_of old) (store_of old) (server_of new)
          (store_of new)) (reader ∷ []) (writer ∷ [])
      moved_so broken result answer ends ran =
          let x = ran.related in
          let all = x.reaches in
          let stands = any_moves begins replies s all.moves (server_of old) (store_of old) (server_of new) (store_of new) all.made before false facts
          given h in
          record {
            used = ran.used;
            given = ran.given;
            read = ran.read;
            written = ran.written;
            related = record {
              moves = all.moves;
              unused = x.unused;
              made = all.made;
              received = x.received ∙ ap (λ (l : List ℕ). (l ++ x.unused) ∷ []) all.used_are;
              sent = x.sent ∙ ap (λ (l : List ℕ). l ∷ []) all.given_are;
              stands = stands;
              whole = λ over. x.whole (all.over_is false ∙ over);
              ends = ends all.moves x.unused stands
                  (subst (λ (b : Bool). EndsRun result hosted_states turns (used_in all.moves) x.unused b) (all.over_is false)
                  (subst (λ (l : List ℕ). EndsRun result hosted_states turns l x.unused (ended_after 0 false x.trace)) all.used_are x.ends));
            };
          }

      -- if it needs input, all answers were sent
      waits : (moves : List Move) (unused : List ℕ)
          → Hosts s (before ++ used_in moves) (over_after false moves) (facts_after facts moves) (given ++ given_in moves) (server_of new)
          → RunWaits hosted_states unused (over_after false moves)
          → WaitsForMore s (before ++ used_in moves) unused (over_after false moves) (facts_after facts moves) (given ++ given_in moves)
      waits moves unused stands rests = record {
        all = rests.all;
        answered = waits_so s (before ++ used_in moves) (over_after false moves) (facts_after facts moves) (given ++ given_in moves)
            (server_of new).stream
            (subst (λ (p : Phase A). HostsIn p s (before ++ used_in moves) (over_after false moves) (facts_after facts moves) (given ++ given_in moves)
            (server_of new).stream (server_of new).flush) (is_reading_now (server_of new) rests.needs_input.1) stands.stands);
      }

      -- the session ended so, or was stopped
      whole : (result : Option Outcome) → outcome_of (server_of new) ≡ result → (moves : List Move) (unused : List ℕ)
          → Hosts s (before ++ used_in moves) (over_after false moves) (facts_after facts moves) (given ++ given_in moves) (server_of new)
          → HasFinished hosted_states unused
          → EndsStoreRun s (Ok result) turns before (used_in moves) unused (over_after false moves) (facts_after facts moves) (given ++ given_in moves)
      whole None is moves unused stands rests = tt
      whole (Some outcome) is moves unused stands rests =
          subst (λ (p : Phase A). HostsIn p s (before ++ used_in moves) (over_after false moves) (facts_after facts moves) (given ++ given_in moves)
          (server_of new).stream (server_of new).flush) (ended_is (server_of new).phase outcome is) stands.stands

    -- the session ended
    pub serves : (result : Option Outcome) {reader writer : Flow} → outcome_of (server_of new) ≡ result → HostedRan (Ok tt) reader writer
        → ServedSo (Ok result) reader writer
    serves result is ran s before facts given h = moved_so s before facts given h false (Ok tt) (Ok result) (whole s before facts given h result is) ran

    -- with an outcome, unless it was stopped
    pub stopped : {reader writer : Flow} → HostedRan (Ok tt) reader writer → outcome_of (server_of new) ≡ None → left_of new ≡ 0
    stopped ran none =
        elim ran.related.ends.finished [
          | inl some ↦ absurd (none_some (outcome_of (server_of new)) none some)
          | inr spent ↦ spent
        ]

    -- a read or a write failed, or the reads were spent
    breaks : (fault : RunFault) {reader writer : Flow} → HostedRan (Err fault) reader writer → ServedSo (Err fault) reader writer
    breaks ReadFault ran s before facts given h =
        moved_so s before facts given h false (Err ReadFault) (Err ReadFault) (waits s before facts given h) ran
    breaks WriteFault ran s before facts given h =
        moved_so s before facts given h true (Err WriteFault) (Err WriteFault) (λ moves unused stands ends. tt) ran
    breaks ReadLimit ran s before facts given h =
        moved_so s before facts given h false (Err ReadLimit) (Err ReadLimit)
        (λ moves unused stands ends. (waits s before facts given h moves unused stands ends.0, ends.1)) ran
    breaks (RefusedRun fault) ran s before facts given h = absurd ran.related.ends

    waits_after : (fault : RunFault) {reader writer : Flow} → HostedRan (Err fault) reader writer → fault ≢ WriteFault
        → reads_on (server_of new) ≡ true
    waits_after ReadFault ran other = ran.related.ends.needs_input.1
    waits_after WriteFault ran other = absurd (other refl)
    waits_after ReadLimit ran other = ran.related.ends.0.needs_input.1
    waits_after (RefusedRun fault) ran other = absurd ran.related.ends

    -- the fault that `?` returns is the one that it met
    pub serves_at : (answer : Result (Option Outcome) RunFault) (fault : RunFault) {reader writer : Flow} → IsErrAnd answer (λ e. e ≡ fault)
        → HostedRan (Err fault) reader writer → ServedSo answer reader writer
    serves_at answer fault {reader} {writer} answered ran =
        at_fault answer fault fault (λ (x : Result (Option Outcome) RunFault). ServedSo x reader writer) refl answered (breaks fault ran)

    pub waits_at : (answer : Result (Option Outcome) RunFault) (fault : RunFault) {reader writer : Flow} → IsErrAnd answer (λ e. e ≡ fault)
        → HostedRan (Err fault) reader writer → IfErr answer (λ e. e ≢ WriteFault → reads_on (server_of new) ≡ true)
    waits_at answer fault answered ran =
        at_fault answer fault fault (λ (x : Result (Option Outcome) RunFault). IfErr x (λ e. e ≢ WriteFault → reads_on (server_of new) ≡ true)) refl
        answered (waits_after fault ran)

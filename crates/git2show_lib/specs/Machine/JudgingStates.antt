-- The states of a judge of both streams in a run, and the laws that join its calls.
use Rattle.std.specs.Prelude.{◌≡◌, ℕ, ◌+◌, ◌<◌, Bool, true, false, if◌then◌else◌, List, [], ◌∷◌, ◌++◌}
use Rattle.std.proofs.Common.{sym, ap, ◌∙◌, subst, append_assoc, append-nil}
use Rattle.git_loop.specs.Moves.{Move, ended_after, given_to, used_of, ended_after-append, given_to-append, used_of-append}
use Rattle.git_loop.specs.Machines.{States, states_of}
use Rattle.git_client.specs.Parts.{Terms}
use Rattle.git2show_lib.specs.Machine.Checker.{Checks, Fed, is_done_with, is_needed, is_opened, lent_by, lines_left, needed_by, needed_in, needed_of, StaysDone}
use Rattle.git2show_lib.specs.Machine.CheckerTurns.{number_of, uses_no_more}
use Rattle.git2show_lib.specs.declared.checker.Checker.{Checker}
use Rattle.git2show_lib.specs.declared.checker.Needed.TheVariants.{Nothing}
use Rattle.git2show_lib.specs.declared.checker.Stream.{Stream}
use Rattle.git2show_lib.specs.declared.checker.Stream.TheVariants.{Requests, Responses}
use Rattle.git2show_lib.specs.declared.checker.Turn.{Turn}
use Rattle.git2show_lib.specs.declared.checker.Turn.TheVariants.{Opening, Request, Response, Sieved, Passing, End, Over}
use Rattle.git2show_lib.specs.declared.judging.Judging.{Judging}

-- what was used of the input of this number, before and by these moves
abbrev pub fed_after : ℕ → Fed → List Move → Fed
fed_after k fed trace = record { bytes = fed.bytes ++ used_of k trace; closed = ended_after k fed.closed trace }

fed_itself : (k : ℕ) (fed : Fed) → fed_after k fed [] ≡ fed
fed_itself k fed = ap (λ (l : List ℕ). record { bytes = l; closed = fed.closed }) (append-nil fed.bytes)

fed_further : (k : ℕ) (fed : Fed) (t u : List Move) → fed_after k (fed_after k fed t) u ≡ fed_after k fed (t ++ u)
fed_further k fed t u =
    let bytes = append_assoc fed.bytes (used_of k t) (used_of k u) ∙ ap (λ (l : List ℕ). fed.bytes ++ l) (sym (used_of-append k t u)) in
    ap (λ (l : List ℕ). record { bytes = l; closed = ended_after k (ended_after k fed.closed t) u }) bytes
    ∙ ap (λ (b : Bool). record { bytes = fed.bytes ++ used_of k (t ++ u); closed = b }) (sym (ended_after-append k fed.closed t u))

not_both : (stream : Stream) (turn : Turn) → is_needed stream (needed_in turn) ≡ true → uses_no_more stream turn ≡ true → ⊥
not_both Requests Opening needs done = absurd (cc)
not_both Requests Request needs done = absurd (cc)
not_both Requests Response needs done = absurd (cc)
not_both Requests (Sieved start) needs done = absurd (cc)
not_both Requests Passing needs done = absurd (cc)
not_both Requests End needs done = absurd (cc)
not_both Requests (Over result) needs done = absurd (cc)
not_both Responses Opening needs done = absurd (cc)
not_both Responses Request needs done = absurd (cc)
not_both Responses Response needs done = absurd (cc)
not_both Responses (Sieved start) needs done = absurd (cc)
not_both Responses Passing needs done = absurd (cc)
not_both Responses End needs done = absurd (cc)
not_both Responses (Over result) needs done = absurd (cc)

module _ {A : Type 0} where
  -- the lines that it lends
  abbrev pub lent_in : Bool → Checker A → List ℕ
  lent_in true checker = lent_by checker
  lent_in false checker = []

  -- It used this of both streams, and has given these lines.
  pub record Judges (t : Terms) (limit : ℕ) (requests responses : Fed) (given : List ℕ) (j : Judging A) : Type 0 where
    pub taken : List ℕ
    pub checks : Checks t limit requests responses taken j.checker
    pub given_is : given ≡ taken ++ lent_in j.lends j.checker

  -- what held before these moves holds after them, with what they used and gave
  pub record JudgingReaches (old : Judging A) (trace : List Move) (new : Judging A) : Type 0 where
    pub carries : (t : Terms) (limit : ℕ) (requests responses : Fed) (given : List ℕ) → Judges t limit requests responses given old
        → Judges t limit (fed_after 0 requests trace) (fed_after 1 responses trace) (given ++ given_to 0 trace) new
    pub stays_opened : is_opened old.checker ≡ true → is_opened new.checker ≡ true

  pub reaches_itself : (j : Judging A) → JudgingReaches j [] j
  reaches_itself j = record {
    carries = λ t limit requests responses given judges.
        subst (λ (fed : Fed). Judges t limit fed (fed_after 1 responses []) (given ++ []) j) (sym (fed_itself 0 requests))
        (subst (λ (fed : Fed). Judges t limit requests fed (given ++ []) j) (sym (fed_itself 1 responses))
        (subst (λ (l : List ℕ). Judges t limit requests responses l j) (sym (append-nil given)) judges));
    stays_opened = λ opened. opened;
  }

  pub reaches_further : (old middle new : Judging A) (t u : List Move) → JudgingReaches old t middle → JudgingReaches middle u new
      → JudgingReaches old (t ++ u) new
  reaches_further old middle new t u first second = record {
    carries = λ terms limit requests responses given judges.
        let all = append_assoc given (given_to 0 t) (given_to 0 u) ∙ ap (λ (l : List ℕ). given ++ l) (sym (given_to-append 0 t u)) in
        subst (λ (fed : Fed). Judges terms limit fed (fed_after 1 responses (t ++ u)) (given ++ given_to 0 (t ++ u)) new) (fed_further 0 requests t u)
        (subst (λ (fed : Fed). Judges terms limit (fed_after 0 (fed_after 0 requests t) u) fed (given ++ given_to 0 (t ++ u)) new)
        (fed_further 1 responses t u)
        (subst (λ (l : List ℕ). Judges terms limit (fed_after 0 (fed_after 0 requests t) u) (fed_after 1 (fed_after 1 responses t) u) l new) all
        (second.carries terms limit (fed_after 0 requests t) (fed_after 1 responses t) (given ++ given_to 0 t)
        (first.carries terms limit requests responses given judges))));
    stays_opened = λ opened. second.stays_opened (first.stays_opened opened);
  }

  -- it needs bytes of the input of this number, or its end, and has given all lines
  pub record NeedsInput (j : Judging A) (k : ℕ) : Type 0 where
    pub stream : Stream
    pub is : k ≡ number_of stream
    pub needs : is_needed stream (needed_of j.checker) ≡ true
    pub all_given : j.lends ≡ false

  -- it uses no more of it
  abbrev pub IsDoneWith : Judging A → ℕ → Type 0
  IsDoneWith j k = (stream : Stream) → k ≡ number_of stream → is_done_with stream j.checker ≡ true

  -- it has a verdict, and has given all lines
  pub record HasFinished (j : Judging A) : Type 0 where
    pub nothing_needed : needed_of j.checker ≡ Nothing
    pub all_given : j.lends ≡ false

  -- how many parts it gives at most before it needs input or has finished
  abbrev pub parts_left : Judging A → ℕ
  parts_left j = (lines_left j.checker + lines_left j.checker) + (if j.lends then 0 else 1)

  needed_in_turn : (c : Checker A) (lines : List ℕ) (stream : Stream) → is_needed stream (needed_by c lines) ≡ true
      → is_needed stream (needed_in c.turn) ≡ true
  needed_in_turn c [] stream needs = needs
  needed_in_turn c (byte ∷ lines) Requests needs = absurd (cc)
  needed_in_turn c (byte ∷ lines) Responses needs = absurd (cc)

  -- it needs no bytes that it does not use
  pub done_needs_none : (j : Judging A) (k : ℕ) → NeedsInput j k → IsDoneWith j k → ⊥
  done_needs_none j k needs done =
      not_both needs.stream j.checker.turn (needed_in_turn j.checker (lent_by j.checker) needs.stream needs.needs) (done needs.stream needs.is)

  -- what the loop that runs it sees of its states
  abbrev pub judging_states : States (Judging A)
  judging_states = states_of JudgingReaches NeedsInput IsDoneWith (λ j k. ⊥) (λ j. Unit {0})

  -- ---- one call

  -- the lines that were lent were taken, if any were
  pub record TakesLent (old new : Judging A) : Type 0 where
    pub reaches : JudgingReaches old [] new
    pub all_given : new.lends ≡ false
    pub fewer : old.lends ≡ true → lines_left new.checker < lines_left old.checker
    pub same : old.lends ≡ false → new.checker ≡ old.checker
    pub stays_done : StaysDone old.checker new.checker

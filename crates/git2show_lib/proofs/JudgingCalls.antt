-- The calls of a judge of both streams, as moves of a run.
use Rattle.std.proofs.Common.{arith, ◌≡◌, ℕ, ◌+◌, ◌<◌, Bool, true, false, if◌then◌else◌, List, [], ◌∷◌, ◌++◌, IsSome}
use Rattle.std.proofs.Common.{refl, sym, ap, ◌∙◌, subst, append_assoc, append-nil}
use Rattle.git_loop.specs.Moves.{closed, gave, used}
use Rattle.git_loop.specs.Machines.{GivesPart}
use Rattle.git_client.specs.Parts.{Terms}
use Rattle.git2show_lib.specs.Machine.Checker.{Carries, CarriesEnd, Checks, Fed, StaysDone, StaysOpened, fed_closed, fed_with, is_done_with}
use Rattle.git2show_lib.specs.Machine.Checker.{is_needed, lent_by, lines_left, verdict_of}
use Rattle.git2show_lib.specs.Machine.CheckerTurns.{number_of, stream_at}
use Rattle.git2show_lib.specs.Machine.JudgingStates.{Judges, JudgingReaches, TakesLent, fed_after, lent_in, parts_left}
use Rattle.git2show_lib.specs.Machine.JudgingStates.{reaches_further, reaches_itself}
use Rattle.git2show_lib.specs.declared.checker.Checker.{Checker}
use Rattle.git2show_lib.specs.declared.checker.Needed.{Needed}
use Rattle.git2show_lib.specs.declared.checker.Needed.TheVariants.{Input}
use Rattle.git2show_lib.specs.declared.checker.Stream.{Stream}
use Rattle.git2show_lib.specs.declared.checker.Stream.TheVariants.{Requests, Responses}
use Rattle.git2show_lib.specs.declared.judging.Judging.{Judging}
use Rattle.git2show_lib.proofs.CheckerCalls.{over_in}

at_number : (stream : Stream) → stream_at (number_of stream) ≡ stream
at_number Requests = refl
at_number Responses = refl

-- the stream of a number that is needed
pub of_number : {k : ℕ} (stream : Stream) {asked : Stream} → k ≡ number_of stream → asked ≡ stream_at k → asked ≡ stream
of_number stream is at = at ∙ ap stream_at is ∙ at_number stream

-- nothing was used of a stream
unfed : (fed : Fed) → fed ≡ record { bytes = fed.bytes ++ []; closed = fed.closed }
unfed fed = ap (λ (l : List ℕ). record { bytes = l; closed = fed.closed }) (sym (append-nil fed.bytes))

-- these bytes were
fed_by : (fed : Fed) (bytes : List ℕ) → fed_with fed bytes ≡ record { bytes = fed.bytes ++ (bytes ++ []); closed = fed.closed }
fed_by fed bytes = ap (λ (l : List ℕ). record { bytes = fed.bytes ++ l; closed = fed.closed }) (sym (append-nil bytes))

-- the stream that is asked about is needed
pub needs_so : {k : ℕ} (stream : Stream) {asked : Stream} (needed : Needed) → k ≡ number_of stream → asked ≡ stream_at k → is_needed stream needed ≡ true
    → is_needed asked needed ≡ true
needs_so stream needed is at needs = subst (λ (s : Stream). is_needed s needed ≡ true) (sym (of_number stream is at)) needs

module _ {A : Type 0} where
  -- the lines that wait are lent
  reaches_lent : (old new : Judging A) → old.lends ≡ false → new.checker ≡ old.checker → new.lends ≡ true
      → JudgingReaches old (gave 0 (lent_by new.checker) ∷ []) new
  reaches_lent old new all same lends = record {
    carries = λ t limit requests responses given judges.
        let on = (reaches_itself old).carries t limit requests responses given judges in
        record {
          taken = on.taken;
          checks = subst (λ (c : Checker A). Checks t limit (fed_after 0 requests []) (fed_after 1 responses []) on.taken c) (sym same) on.checks;
          given_is = sym (append_assoc given [] _)
              ∙ ap (λ (l : List ℕ). l ++ (lent_by new.checker ++ []))
              (on.given_is ∙ ap (λ (b : Bool). on.taken ++ lent_in b old.checker) all ∙ append-nil on.taken)
              ∙ ap (λ (l : List ℕ). on.taken ++ l) (append-nil (lent_by new.checker))
              ∙ ap (λ (b : Bool). on.taken ++ lent_in b new.checker) (sym lends);
        };
    stays_opened = λ opened. ap (λ (c : Checker A). c.opened) same ∙ opened;
  }

  -- the next part is lent
  pub gives_lines : (old mid new : Judging A) (to : ℕ) → to ≡ 0 → TakesLent old mid → new.checker ≡ mid.checker → new.lends ≡ true
      → GivesPart JudgingReaches (λ j bytes. bytes ≡ lent_by j.checker) old to new
  gives_lines old mid new to first taken same lends = record {
    bytes = lent_by new.checker;
    lent = refl;
    reaches = subst (λ (n : ℕ). JudgingReaches old (gave n (lent_by new.checker) ∷ []) new) (sym first)
        (reaches_further old mid new [] (gave 0 (lent_by new.checker) ∷ []) taken.reaches (reaches_lent mid new taken.all_given same lends));
  }

  -- and fewer are left
  pub gives_fewer : (old mid : Judging A) → TakesLent old mid → (lines_left mid.checker + lines_left mid.checker) + 0 < parts_left old
  gives_fewer old mid taken = at old.lends refl where
    at : (lends : Bool) → old.lends ≡ lends → (lines_left mid.checker + lines_left mid.checker) + 0 < parts_left old
    at true is =
        let before = ap (λ (b : Bool). (lines_left old.checker + lines_left old.checker) + (if b then 0 else 1)) is in
        omega (arith, before, taken.fewer is)
    at false is =
        let before = ap (λ (b : Bool). (lines_left old.checker + lines_left old.checker) + (if b then 0 else 1)) is in
        omega (arith, before, ap lines_left (taken.same is))

  -- ---- bytes that were used, and the ends of streams

  module _ (old new : Judging A) (all : old.lends ≡ false) (still : new.lends ≡ old.lends) where
    -- the lines are those from before
    after : (t : Terms) (limit : ℕ) {requests responses requests_after responses_after : Fed} (given : List ℕ)
        → ((taken : List ℕ) → Checks t limit requests responses taken old.checker → Checks t limit requests_after responses_after taken new.checker)
        → Judges t limit requests responses given old → Judges t limit requests_after responses_after (given ++ []) new
    after t limit given carries judges = record {
      taken = judges.taken;
      checks = carries judges.taken judges.checks;
      given_is = append-nil given ∙ judges.given_is ∙ ap (λ (b : Bool). judges.taken ++ lent_in b old.checker) all
          ∙ ap (λ (b : Bool). judges.taken ++ lent_in b new.checker) (sym (still ∙ all));
    }

    used_so : (stream : Stream) (bytes : List ℕ) → Carries stream bytes old.checker new.checker → StaysOpened old.checker new.checker
        → JudgingReaches old (used (number_of stream) bytes ∷ []) new
    used_so Requests bytes carries opened = record {
      carries = λ t limit requests responses given. after t limit given (λ taken k.
          subst (λ (fed : Fed). Checks t limit fed (fed_after 1 responses (used 0 bytes ∷ [])) taken new.checker) (fed_by requests bytes)
          (subst (λ (fed : Fed). Checks t limit (fed_with requests bytes) fed taken new.checker) (unfed responses)
          (carries t limit requests responses taken k)));
      stays_opened = opened;
    }
    used_so Responses bytes carries opened = record {
      carries = λ t limit requests responses given. after t limit given (λ taken k.
          subst (λ (fed : Fed). Checks t limit (fed_after 0 requests (used 1 bytes ∷ [])) fed taken new.checker) (fed_by responses bytes)
          (subst (λ (fed : Fed). Checks t limit fed (fed_with responses bytes) taken new.checker) (unfed requests)
          (carries t limit requests responses taken k)));
      stays_opened = opened;
    }

    closed_so : (stream : Stream) → CarriesEnd stream old.checker new.checker → StaysOpened old.checker new.checker
        → JudgingReaches old (closed (number_of stream) ∷ []) new
    closed_so Requests carries opened = record {
      carries = λ t limit requests responses given. after t limit given (λ taken k.
          subst (λ (fed : Fed). Checks t limit fed (fed_after 1 responses (closed 0 ∷ [])) taken new.checker) (unfed (fed_closed requests))
          (subst (λ (fed : Fed). Checks t limit (fed_closed requests) fed taken new.checker) (unfed responses)
          (carries t limit requests responses taken k)));
      stays_opened = opened;
    }
    closed_so Responses carries opened = record {
      carries = λ t limit requests responses given. after t limit given (λ taken k.
          subst (λ (fed : Fed). Checks t limit (fed_after 0 requests (closed 1 ∷ [])) fed taken new.checker) (unfed (fed_closed responses))
          (subst (λ (fed : Fed). Checks t limit fed (fed_closed responses) taken new.checker) (unfed requests)
          (carries t limit requests responses taken k)));
      stays_opened = opened;
    }

    -- bytes of the input of this number were used
    pub reaches_used : {k : ℕ} (stream : Stream) {asked : Stream} {bytes : List ℕ} → k ≡ number_of stream → asked ≡ stream_at k
        → Carries asked bytes old.checker new.checker → StaysOpened old.checker new.checker → JudgingReaches old (used k bytes ∷ []) new
    reaches_used stream {bytes = bytes} is at carries opened =
        subst (λ (n : ℕ). JudgingReaches old (used n bytes ∷ []) new) (sym is)
        (used_so stream bytes (subst (λ (s : Stream). Carries s bytes old.checker new.checker) (of_number stream is at) carries) opened)

    -- it ended
    pub reaches_closed : {k : ℕ} (stream : Stream) {asked : Stream} → k ≡ number_of stream → asked ≡ stream_at k → CarriesEnd asked old.checker new.checker
        → StaysOpened old.checker new.checker → JudgingReaches old (closed k ∷ []) new
    reaches_closed stream is at carries opened =
        subst (λ (n : ℕ). JudgingReaches old (closed n ∷ []) new) (sym is)
        (closed_so stream (subst (λ (s : Stream). CarriesEnd s old.checker new.checker) (of_number stream is at) carries) opened)

  pub over_done : (c : Checker A) → IsSome (verdict_of c) → (k : ℕ) (stream : Stream) → k ≡ number_of stream → is_done_with stream c ≡ true
  over_done c is k stream number = over_in c.turn stream is

  -- it is done with what it closed
  pub closed_done : (c : Checker A) {k : ℕ} {asked : Stream} → asked ≡ stream_at k → is_done_with asked c ≡ true → (stream : Stream)
      → k ≡ number_of stream → is_done_with stream c ≡ true
  closed_done c at done stream is = subst (λ (s : Stream). is_done_with s c ≡ true) (of_number stream is at) done

  pub stays_done_so : (old new : Checker A) → StaysDone old new → (k : ℕ)
      → ((stream : Stream) → k ≡ number_of stream → is_done_with stream old ≡ true) → (stream : Stream) → k ≡ number_of stream
      → is_done_with stream new ≡ true
  stays_done_so old new stays k done stream is = stays stream (done stream is)

-- an input that is needed is that of its stream
pub input_needed : (stream : Stream) {needed : Needed} → needed ≡ Input stream → is_needed stream needed ≡ true
input_needed Requests is = ap (is_needed Requests) is
input_needed Responses is = ap (is_needed Responses) is

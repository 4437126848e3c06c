-- A machine that judges a conversation where its loop ends before it has judged, or before its lines were written: what a check results in then.
use Rattle.std.proofs.Common.{◌≡◌, ℕ, Bool, true, false, List, [], ◌∷◌, ◌++◌, None, Result, Err}
use Rattle.std.proofs.Common.{refl, subst, append-nil}
use Rattle.git_client.specs.Parts.{Terms}
use Rattle.git2show_lib.specs.Machine.CheckFaults.{Standing}
use Rattle.git2show_lib.specs.Machine.CheckedStreams.{Checked}
use Rattle.git2show_lib.specs.Machine.Checker.{IsOver, MayFollow, StandsIn, needed_in, verdict_in, waiting_in}
use Rattle.git2show_lib.specs.declared.checker.Checker.{Checker}
use Rattle.git2show_lib.specs.declared.checker.Needed.TheVariants.{Input}
use Rattle.git2show_lib.specs.declared.checker.Stream.TheVariants.{Requests as OfRequests, Responses as OfResponses}
use Rattle.git2show_lib.specs.declared.checker.Turn.{Turn}
use Rattle.git2show_lib.specs.declared.checker.Turn.TheVariants.{Opening, Request, Response, Sieved, Passing, End, Over}
use Rattle.git2show_lib.specs.declared.checking.CheckFault.{CheckFault}
use Rattle.git2show_lib.specs.declared.checking.CheckFault.TheVariants.{WriteFault}
use Rattle.git2show_lib.proofs.CheckBroken.{broken_anywhere}
use Rattle.git2show_lib.proofs.CheckerCut.{CutsOff, between_broken, ending_cut, opening_broken, opening_cut, passing_broken, passing_cut, reading_cut}
use Rattle.git2show_lib.proofs.CheckerCut.{receiving_broken, receiving_cut, sieving_broken, sieving_cut}

module _ {A : Type 0} {t : Terms} {limit : ℕ} (requests responses : List ℕ) {lines : List ℕ} where
  -- ---- a write failed

  -- in whichever turn it is that is not the last, whatever comes behind the bytes that were used
  pub broken_in : (turn : Turn) (c : Checker A) (of_requests of_responses : Standing) (more_requests more_responses : List ℕ) → verdict_in turn ≡ None
      → (c.opened ≡ false → more_requests ≡ []) → StandsIn turn t limit requests responses lines c
      → Checked A t limit (Err WriteFault) of_requests of_responses ((requests ++ more_requests) ∷ (responses ++ more_responses) ∷ []) (lines ∷ [])
  broken_in Opening c of_requests of_responses more_requests more_responses unjudged unopened (none, zero, opening, o) =
      subst (λ (l : List ℕ). Checked A t limit (Err WriteFault) of_requests of_responses (l ∷ (responses ++ more_responses) ∷ []) (lines ∷ []))
      (rw (none, unopened opening) refl) (opening_broken of_requests of_responses more_responses o)
  broken_in Request c of_requests of_responses more_requests more_responses unjudged unopened s =
      between_broken of_requests of_responses more_requests more_responses s.0.checking
  broken_in Response c of_requests of_responses more_requests more_responses unjudged unopened s =
      receiving_broken of_requests of_responses more_requests more_responses s
  broken_in (Sieved start) c of_requests of_responses more_requests more_responses unjudged unopened s =
      sieving_broken of_requests of_responses more_requests more_responses s.0
  broken_in Passing c of_requests of_responses more_requests more_responses unjudged unopened s =
      passing_broken of_requests of_responses more_requests more_responses s
  broken_in End c of_requests of_responses more_requests more_responses unjudged unopened s =
      between_broken of_requests of_responses more_requests more_responses s.checking
  broken_in (Over result) c of_requests of_responses more_requests more_responses unjudged unopened s = absurd (cc)

  -- or after that, before its lines were written
  pub judged_broken : {result : Result (Unit {0}) CheckFault} {opened requests_ended responses_ended : Bool} (of_requests of_responses : Standing)
      {more_requests more_responses : List ℕ}
      → IsOver A t limit result opened requests_ended responses_ended requests responses lines
      → MayFollow opened requests_ended responses_ended more_requests more_responses
      → Checked A t limit (Err WriteFault) of_requests of_responses ((requests ++ more_requests) ∷ (responses ++ more_responses) ∷ []) (lines ∷ [])
  judged_broken of_requests of_responses {more_requests} {more_responses} over follow =
      broken_anywhere (over more_requests more_responses follow) of_requests of_responses

  -- ---- no more bytes came of the stream that is needed

  module _ (result : Result (Unit {0}) CheckFault) (of_requests of_responses : Standing) {Q R : Type 0}
      (cuts : CutsOff A t limit result of_requests of_responses Q R) where
    -- of the responses
    pub cut_off_in : (turn : Turn) (c : Checker A) (more_requests : List ℕ) → needed_in turn ≡ Input OfResponses → waiting_in c ≡ [] → R
        → (c.opened ≡ false → more_requests ≡ []) → (c.requests_ended ≡ true → more_requests ≡ []) → of_requests.ended ≡ c.requests_ended
        → StandsIn turn t limit requests responses lines c
        → Checked A t limit result of_requests of_responses ((requests ++ more_requests) ∷ responses ∷ []) (lines ∷ [])
    cut_off_in turn c more_requests needs quiet shown unopened none same stands =
        subst (λ (l : List ℕ). Checked A t limit result of_requests of_responses ((requests ++ more_requests) ∷ l ∷ []) (lines ∷ [])) (append-nil responses)
        (at turn needs stands)
      where
        at : (turn : Turn) → needed_in turn ≡ Input OfResponses → StandsIn turn t limit requests responses lines c
            → Checked A t limit result of_requests of_responses ((requests ++ more_requests) ∷ (responses ++ []) ∷ []) (lines ∷ [])
        at Opening needs (no_requests, zero, opening, o) =
            subst (λ (l : List ℕ). Checked A t limit result of_requests of_responses (l ∷ (responses ++ []) ∷ []) (lines ∷ []))
            (rw (no_requests, unopened opening) refl) (opening_cut result of_requests of_responses cuts shown o)
        at Request needs s = absurd (cc)
        at Response needs s = receiving_cut result of_requests of_responses cuts shown more_requests s
        at (Sieved start) needs s = sieving_cut result of_requests of_responses cuts shown more_requests (s.1 quiet) s.0
        at Passing needs s = passing_cut result of_requests of_responses cuts shown more_requests s
        at End needs s = ending_cut result of_requests of_responses cuts shown more_requests same none s
        at (Over judged) needs s = absurd (cc)

    -- or of the requests
    pub cut_off_before : (turn : Turn) (c : Checker A) (more_responses : List ℕ) → needed_in turn ≡ Input OfRequests → Q → of_requests.ended ≡ false
        → of_responses.ended ≡ false → StandsIn turn t limit requests responses lines c
        → Checked A t limit result of_requests of_responses (requests ∷ (responses ++ more_responses) ∷ []) (lines ∷ [])
    cut_off_before Opening c more_responses needs shown can_come more_can_come s = absurd (cc)
    cut_off_before Request c more_responses needs shown can_come more_can_come s =
        subst (λ (l : List ℕ). Checked A t limit result of_requests of_responses (l ∷ (responses ++ more_responses) ∷ []) (lines ∷ [])) (append-nil requests)
        (reading_cut result of_requests of_responses cuts shown can_come more_can_come more_responses s.0)
    cut_off_before Response c more_responses needs shown can_come more_can_come s = absurd (cc)
    cut_off_before (Sieved start) c more_responses needs shown can_come more_can_come s = absurd (cc)
    cut_off_before Passing c more_responses needs shown can_come more_can_come s = absurd (cc)
    cut_off_before End c more_responses needs shown can_come more_can_come s = absurd (cc)
    cut_off_before (Over judged) c more_responses needs shown can_come more_can_come s = absurd (cc)

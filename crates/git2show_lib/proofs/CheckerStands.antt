-- A machine that judges a conversation, in the turn that it is in.
use Rattle.std.proofs.Common.{◌≡◌, ◌≢◌, ℕ, Bool, true, false, List, [], ◌++◌, ◌∷◌, Some, Result, refl, sym, ap, subst, ◌∙◌, append-nil}
use Rattle.git_client.specs.Parts.{Terms}
use Rattle.git2show_lib.specs.Machine.CheckSteps.{Asking}
use Rattle.git2show_lib.specs.Machine.Checker.{Checks, Fed, HasJudged, IsCheckOf, IsOver, IsReading, StandsIn, first_of, lent_by}
use Rattle.git2show_lib.specs.Machine.Checker.{needed_by, needed_in, needed_of, verdict_in, verdict_of, waiting_in}
use Rattle.git2show_lib.specs.Machine.CheckerTurns.{FitsTurn, IsSound}
use Rattle.git2show_lib.specs.Machine.JudgedRequests.{IsReady}
use Rattle.git2show_lib.specs.Machine.KeptLines.{noted_in}
use Rattle.git2show_lib.specs.declared.checker.Checker.{Checker}
use Rattle.git2show_lib.specs.declared.checker.Needed.TheVariants.{Nothing}
use Rattle.git2show_lib.specs.declared.checker.Turn.{Turn}
use Rattle.git2show_lib.specs.declared.checker.Turn.TheVariants.{Opening, Request, Response, Sieved, Passing, End, Over}
use Rattle.git2show_lib.specs.declared.checking.CheckFault.{CheckFault}
use Rattle.git2show_lib.specs.declared.judged_requests.JudgedRequests.{JudgedRequests}

-- where it needs something, the responses have not ended
responses_open : (turn : Turn) (opened requests_ended responses_ended : Bool) → FitsTurn turn opened requests_ended responses_ended
    → needed_in turn ≢ Nothing → responses_ended ≡ false
responses_open Opening opened requests_ended responses_ended fits needs = fits.2
responses_open Request opened requests_ended responses_ended fits needs = fits.2
responses_open Response opened requests_ended responses_ended fits needs = fits.2
responses_open (Sieved start) opened requests_ended responses_ended fits needs = fits.2
responses_open Passing opened requests_ended responses_ended fits needs = fits.2
responses_open End opened requests_ended responses_ended fits needs = fits.1
responses_open (Over result) opened requests_ended responses_ended fits needs = absurd (needs refl)

-- a client that can't ask, and has no fault, needs input
pub expects_more : (wants can : Bool) → (wants ≡ false → can ≡ true) → can ≡ false → wants ≡ true
expects_more true can whole cannot = refl
expects_more false can whole cannot = let now = whole refl in absurd (cc)

module _ {A : Type 0} where
  -- what its turn needs of its parts
  pub sound_in : (c : Checker A) (turn : Turn) → c.turn ≡ turn → IsSound turn c.client c.noting c.requests c.packets c.received c.hold.items
  sound_in c turn is = subst (λ (x : Turn). IsSound x c.client c.noting c.requests c.packets c.received c.hold.items) is c.sound

  pub fits_in : (c : Checker A) (turn : Turn) → c.turn ≡ turn → FitsTurn turn c.opened c.requests_ended c.responses_ended
  fits_in c turn is = subst (λ (x : Turn). FitsTurn x c.opened c.requests_ended c.responses_ended) is c.fits

  pub still_open : (c : Checker A) (turn : Turn) → c.turn ≡ turn → needed_in turn ≢ Nothing → c.responses_ended ≡ false
  still_open c turn is needs = responses_open turn c.opened c.requests_ended c.responses_ended (fits_in c turn is) needs

  -- where a request is expected, that stays so with another reader of requests that is ready
  pub still_sound : (c : Checker A) (requests : JudgedRequests A) → c.turn ≡ Request → IsReady requests
      → IsSound c.turn c.client c.noting requests c.packets c.received c.hold.items
  still_sound c requests is ready =
      subst (λ (now : Turn). IsSound now c.client c.noting requests c.packets c.received c.hold.items) (sym is)
      ((sound_in c Request is).0, ready)

module _ {A : Type 0} {t : Terms} {limit : ℕ} {requests responses : Fed} {lent : List ℕ} where
  -- what it represents in this turn
  pub stood : (c : Checker A) (turn : Turn) → c.turn ≡ turn → Checks t limit requests responses lent c
      → StandsIn turn t limit requests.bytes responses.bytes (lent ++ waiting_in c) c
  stood c turn is k = subst (λ (x : Turn). StandsIn x t limit requests.bytes responses.bytes (lent ++ waiting_in c) c) is k.stands

  pub check_of : {c : Checker A} → Checks t limit requests responses lent c → IsCheckOf t limit requests responses c
  check_of k = (k.terms, k.limit_is, k.requests_closed, k.responses_closed)

  pub stands_as : (c : Checker A) (turn : Turn) → c.turn ≡ turn → IsCheckOf t limit requests responses c
      → StandsIn turn t limit requests.bytes responses.bytes (lent ++ waiting_in c) c → Checks t limit requests responses lent c
  stands_as c turn is of stands = record {
    terms = of.0;
    limit_is = of.1;
    requests_closed = of.2;
    responses_closed = of.3;
    stands = subst (λ (x : Turn). StandsIn x t limit requests.bytes responses.bytes (lent ++ waiting_in c) c) (sym is) stands;
  }

  -- it is over
  pub over_as : (c : Checker A) (result : Result (Unit {0}) CheckFault) (ended : Bool) → c.turn ≡ Over result → c.responses_ended ≡ ended
      → IsCheckOf t limit requests responses c
      → IsOver A t limit result c.opened c.requests_ended ended requests.bytes responses.bytes (lent ++ waiting_in c)
      → Checks t limit requests responses lent c
  over_as c result ended is ends of over =
      stands_as c (Over result) is of
      (subst (λ (e : Bool). IsOver A t limit result c.opened c.requests_ended e requests.bytes responses.bytes (lent ++ waiting_in c)) (sym ends) over)

  -- or was before the advertisement was whole
  pub over_before : (c : Checker A) (result : Result (Unit {0}) CheckFault) (ended : Bool) → c.turn ≡ Over result → c.responses_ended ≡ ended
      → IsCheckOf t limit requests responses c → requests.bytes ≡ [] → c.opened ≡ false
      → IsOver A t limit result false c.requests_ended ended [] responses.bytes (lent ++ waiting_in c) → Checks t limit requests responses lent c
  over_before c result ended is ends of none unopened over =
      over_as c result ended is ends of
      (subst (λ (o : Bool). IsOver A t limit result o c.requests_ended ended requests.bytes responses.bytes (lent ++ waiting_in c)) (sym unopened)
      (subst (λ (l : List ℕ). IsOver A t limit result false c.requests_ended ended l responses.bytes (lent ++ waiting_in c)) (sym none) over))

  -- it reads requests, and knows where one ends
  pub reads_as : (c : Checker A) → c.turn ≡ Request → IsCheckOf t limit requests responses c
      → IsReading t limit requests.bytes responses.bytes (lent ++ waiting_in c) c.client c.requests c.passed
      → Asking c.requests (λ used left rest. (left ≡ []) × (rest ≡ [])) → Checks t limit requests responses lent c
  reads_as c is of reading alone = stands_as c Request is of (reading, λ some. alone)

-- ---- a verdict

pub none_wait : (lines others : List ℕ) → first_of lines others ≡ [] → lines ++ others ≡ []
none_wait [] others none = none
none_wait (byte ∷ lines) others none = absurd (cc)

pub verdict_is : (turn : Turn) (result : Result (Unit {0}) CheckFault) → verdict_in turn ≡ Some result → turn ≡ Over result
verdict_is (Over other) result is = ap Over (cc)
verdict_is turn result is = absurd (cc)

module _ {A : Type 0} where
  none_lent : (c : Checker A) (lines : List ℕ) → needed_by c lines ≡ Nothing → lines ≡ []
  none_lent c [] is = refl
  none_lent c (byte ∷ lines) is = absurd (cc)

  -- where it needs nothing, it has judged what it used, and all lines were lent
  pub judged : (t : Terms) (limit : ℕ) (requests responses : Fed) (lent : List ℕ) (c : Checker A) (result : Result (Unit {0}) CheckFault)
      → Checks t limit requests responses lent c → needed_of c ≡ Nothing → verdict_of c ≡ Some result → HasJudged t limit result requests responses lent c
  judged t limit requests responses lent c result k needs is =
      let all = none_wait c.lines (noted_in c.others).lines (none_lent c (lent_by c) needs) in
      let over = stood c (Over result) (verdict_is c.turn result is) k in
      subst (λ (l : List ℕ). HasJudged t limit result requests responses l c) (ap (λ (l : List ℕ). lent ++ l) all ∙ append-nil lent)
      (rw (← k.requests_closed, ← k.responses_closed) over)

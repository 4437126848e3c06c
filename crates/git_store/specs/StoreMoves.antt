-- What a host's server and its store do in a session, one after the other: what the store was asked and replied, and what was sent for it.
use Rattle.std.specs.Prelude.{◌≡◌, ℕ, Bool, true, false, List, [], ◌∷◌, ◌++◌, flat_map, Option, Some, None, IsSome, Result, Ok, Err}
use Rattle.std.proofs.Common.{refl, sym, ◌∙◌, ap, subst}
use Rattle.std.proofs.lemmas.Grind.{flat_map-append}
use Rattle.git_loop.specs.Moves.{Move as RunMove, ended_after, given_to, used_of, ended_after-append, given_to-append, used_of-append}
use Rattle.git_msg.specs.Asked.{Asked}
use Rattle.git_host.specs.HostLookups.{request_of}
use Rattle.git_host.specs.HostSessions.{Facts}
use Rattle.git_host.specs.HostAnswers.{with_reported}
use Rattle.git_host.specs.HostServer.{AcceptsHost, ClosesHost, FeedsHost, ReportsHost, StepsHost, begun_by, bytes_of, given_with}
use Rattle.git_host.specs.HostServer.{outcome_of, reads_on, with_last}
use Rattle.git_store.specs.Questions.{IsNoReport, IsReportOf, Question, Reply, question_of}
use Rattle.git_host.specs.declared.host_server.HostServer.{HostServer}
use Rattle.git_store.specs.declared.hosted.Turn.{Turn}
use Rattle.git_store.specs.declared.hosted.Turn.TheVariants.{Packet as GivesPacket, NeedInput as WaitsForInput, Finished as HasFinished}
use Rattle.git_host.specs.declared.report.HostReported.{HostReported}
use Rattle.git_host.specs.declared.report.HostReported.TheVariants.{Packet as WasGiven, Taken, Hidden}
use Rattle.git_host.specs.declared.report.HostStep.{HostStep}
use Rattle.git_host.specs.declared.report.HostStep.TheVariants.{Packet, NeedInput, Asked as AsksFor, Need as Needs, Ended as HasEnded}
use Rattle.git_host.specs.declared.report.Need.{Need}
use Rattle.git_host.specs.declared.report.Report.{Report}
use Rattle.git_host.specs.declared.report.Report.TheVariants.{Failed}

-- what came of a reply: its report was taken; it made no report, and this came of the report that the store has failed; or its report was
-- refused, for the first reason, and the other came of the report that the store has failed
pub data Outturn : Type 0 where
  was_taken : Report → HostReported → Outturn
  was_none : HostReported → Outturn
  was_refused : Report → HostReported → HostReported → Outturn

-- bytes of the input were used, which began these; the input ended; a packet of these bytes was sent without a question; nothing was sent, since
-- the server waits or its session is over; a request began; or the store was asked and replied, and these bytes were sent
pub data Move : Type 0 where
  fed : List ℕ → List Facts → Move
  closed : Move
  gave : List ℕ → Move
  rested : Move
  began : Asked → Move
  asked : Need → Question → Reply → Outturn → List ℕ → Move

abbrev pub used_by : Move → List ℕ
used_by (fed bytes begun) = bytes
used_by move = []

abbrev pub given_by : Move → List ℕ
given_by (gave bytes) = bytes
given_by (asked need question reply outturn bytes) = bytes
given_by move = []

-- what was reported for each request, with what was taken
abbrev pub facts_with : Move → List Facts → List Facts
facts_with (fed bytes begun) facts = facts ++ begun
facts_with (asked need question reply (was_taken report what) bytes) facts = with_last (with_reported what report) facts
facts_with move facts = facts

abbrev pub over_with : Move → Bool → Bool
over_with closed over = true
over_with move over = over

abbrev pub used_in : List Move → List ℕ
used_in = flat_map used_by

abbrev pub given_in : List Move → List ℕ
given_in = flat_map given_by

abbrev pub facts_after : List Facts → List Move → List Facts
facts_after facts [] = facts
facts_after facts (move ∷ moves) = facts_after (facts_with move facts) moves

abbrev pub over_after : Bool → List Move → Bool
over_after over [] = over
over_after over (move ∷ moves) = over_after (over_with move over) moves

over_append : (front back : List Move) (over : Bool) → over_after over (front ++ back) ≡ over_after (over_after over front) back
over_append [] back over = refl
over_append (move ∷ moves) back over = over_append moves back (over_with move over)

-- the input did not end in them
abbrev pub is_closed : Move → Bool
is_closed closed = true
is_closed move = false

abbrev pub AllOpen : List Move → Type 0
AllOpen [] = Unit {0}
AllOpen (move ∷ moves) = (is_closed move ≡ false) × AllOpen moves

all_open_append : (front back : List Move) → AllOpen front → AllOpen back → AllOpen (front ++ back)
all_open_append [] back first second = second
all_open_append (move ∷ moves) back (here, more) second = (here, all_open_append moves back more second)

-- the report was taken, with a packet or without
abbrev pub is_taken : HostReported → Bool
is_taken WasGiven = true
is_taken Taken = true
is_taken Hidden = true
is_taken reported = false

-- a packet was sent for it
abbrev pub is_given : HostReported → Bool
is_given WasGiven = true
is_given reported = false

-- what came last
abbrev pub last_of : Outturn → HostReported
last_of (was_taken report what) = what
last_of (was_none what) = what
last_of (was_refused report why what) = what

-- what is asked of the store for the request at hand, where this is needed
abbrev pub question_by : Option Asked → Need → Option Question
question_by None need = None
question_by (Some q) need = question_of q need

-- nothing is sent: the server waits for input, or the session has ended
abbrev pub IsRest : HostStep → Type 0
IsRest NeedInput = Unit {0}
IsRest (HasEnded outcome) = Unit {0}
IsRest step = ⊥

module _ {A : Type 0} where
  abbrev pub question_at : HostServer A → Need → Option Question
  question_at server need = question_by (request_of server) need

  -- what came of a reply leads the server from the one state to the other
  abbrev pub TurnsOut : Need → Reply → Outturn → HostServer A → HostServer A → Type 0
  TurnsOut need reply (was_taken report what) old new = IsReportOf need reply report × (is_taken what ≡ true) × ReportsHost report old what new
  TurnsOut need reply (was_none what) old new = IsNoReport reply × ReportsHost Failed old what new
  TurnsOut need reply (was_refused report why what) old new = (refusing : HostServer A) × IsReportOf need reply report × (is_taken why ≡ false)
      × ReportsHost report old why refusing × ReportsHost Failed refusing what new

  -- the failure of the store was reported, and a packet was sent for it, or none
  abbrev pub FailsNow : Bool → HostServer A → HostServer A → Type 0
  FailsNow given old new = (what : HostReported) × (given ≡ is_given what) × ReportsHost Failed old what new

  -- that of a store whose report was refused; where it was taken nothing more is reported
  abbrev pub Settles : Bool → HostReported → Bool → HostServer A → HostServer A → Type 0
  Settles true reported given old new = (given ≡ is_given reported) × (new ≡ old)
  Settles false reported given old new = FailsNow given old new

  -- the store received the request at hand, which was accepted
  pub record Begins {S : Type 0} (begins : S → Asked → S → Type 0) (old : HostServer A) (store : S) (new : HostServer A) (left : S) : Type 0 where
    pub asked : Asked
    pub at_hand : request_of old ≡ Some asked
    pub begun : begins store asked left
    pub accepts : AcceptsHost old true new

  module _ {S : Type 0} (replies : S → Question → Reply → S → Type 0) where
    -- the store was asked what is needed, and this came of the report of its reply
    pub record Reported (need : Need) (what : HostReported) (old : HostServer A) (store : S) (new : HostServer A) (left : S) : Type 0 where
      pub question : Question
      pub reply : Reply
      pub report : Report
      pub is_asked : question_at old need ≡ Some question
      pub replied : replies store question reply left
      pub is : IsReportOf need reply report
      pub reports : ReportsHost report old what new

    -- or its reply makes no report
    pub record Unreported (need : Need) (old : HostServer A) (store : S) (new : HostServer A) (left : S) : Type 0 where
      pub question : Question
      pub reply : Reply
      pub is_asked : question_at old need ≡ Some question
      pub replied : replies store question reply left
      pub none : IsNoReport reply
      pub same : new ≡ old

    abbrev pub Asks : {E : Type 0} → Need → Result HostReported E → HostServer A → S → HostServer A → S → Type 0
    Asks need (Ok what) old store new left = Reported need what old store new left
    Asks need (Err fault) old store new left = Unreported need old store new left

    -- the store was asked what is needed, and this came of its reply
    pub record Answers (need : Need) (question : Question) (reply : Reply) (outturn : Outturn) (old : HostServer A) (store : S) (new : HostServer A)
        (left : S) : Type 0 where
      pub is_asked : question_at old need ≡ Some question
      pub replied : replies store question reply left
      pub turns_out : TurnsOut need reply outturn old new

    -- and a packet was sent for it, or none
    pub record AnswersNeed (need : Need) (given : Bool) (old : HostServer A) (store : S) (new : HostServer A) (left : S) : Type 0 where
      pub question : Question
      pub reply : Reply
      pub outturn : Outturn
      pub answers : Answers need question reply outturn old store new left
      pub given_is : given ≡ is_given (last_of outturn)

  module _ {S : Type 0} (begins : S → Asked → S → Type 0) (replies : S → Question → Reply → S → Type 0) where
    -- what a move does to the server and to the store
    abbrev pub Made : Move → HostServer A → S → HostServer A → S → Type 0
    Made (fed bytes begun) old store new left = FeedsHost bytes old new × (begun ≡ begun_by old new) × (left ≡ store)
    Made closed old store new left = ClosesHost old true new × (left ≡ store)
    Made (gave bytes) old store new left = StepsHost old Packet new × (bytes ≡ bytes_of new) × (left ≡ store)
    Made rested old store new left = (step : HostStep) × IsRest step × StepsHost old step new × (left ≡ store)
    Made (began q) old store new left =
        (asking : HostServer A) × StepsHost old AsksFor asking × (b : Begins begins asking store new left) × (b.asked ≡ q)
    Made (asked need question reply outturn bytes) old store new left = (asking : HostServer A) × StepsHost old (Needs need) asking
        × Answers replies need question reply outturn asking store new left × (bytes ≡ given_with (last_of outturn) new.stream)

    abbrev pub AllMade : List Move → HostServer A → S → HostServer A → S → Type 0
    AllMade [] old store new left = (new ≡ old) × (left ≡ store)
    AllMade (move ∷ moves) old store new left =
        (next : HostServer A) × (then : S) × Made move old store next then × AllMade moves next then new left

    -- moves without the end of the input lead from the one state to the other, use these bytes and send these
    pub record Reaches (used given : List ℕ) (old : HostServer A) (store : S) (new : HostServer A) (left : S) : Type 0 where
      pub moves : List Move
      pub made : AllMade moves old store new left
      pub unclosed : AllOpen moves
      pub used_are : used ≡ used_in moves
      pub given_are : given ≡ given_in moves

    -- ---- moves join

    pub all_made_append : (front back : List Move) (old : HostServer A) (store : S) (middle : HostServer A) (then : S) (new : HostServer A) (left : S)
        → AllMade front old store middle then → AllMade back middle then new left → AllMade (front ++ back) old store new left
    all_made_append [] back old store middle then new left (same, kept) later =
        subst (λ (x : HostServer A). AllMade back x store new left) same
        (subst (λ (x : S). AllMade back middle x new left) kept later)
    all_made_append (move ∷ moves) back old store middle then new left (next, after, made, more) later =
        (next, after, made, all_made_append moves back next after middle then new left more later)

    pub reaches_itself : (server : HostServer A) (store : S) → Reaches [] [] server store server store
    reaches_itself server store = record { moves = []; made = (refl, refl); unclosed = tt; used_are = refl; given_are = refl }

    pub reaches_further : (old : HostServer A) (store : S) (middle : HostServer A) (then : S) (new : HostServer A) (left : S) (u v g h : List ℕ)
        → Reaches u g old store middle then → Reaches v h middle then new left → Reaches (u ++ v) (g ++ h) old store new left
    reaches_further old store middle then new left u v g h first second = record {
      moves = first.moves ++ second.moves;
      made = all_made_append first.moves second.moves old store middle then new left first.made second.made;
      unclosed = all_open_append first.moves second.moves first.unclosed second.unclosed;
      used_are = ap (λ (l : List ℕ). l ++ v) first.used_are ∙ ap (λ (l : List ℕ). used_in first.moves ++ l) second.used_are
          ∙ sym (flat_map-append used_by first.moves second.moves);
      given_are = ap (λ (l : List ℕ). l ++ h) first.given_are ∙ ap (λ (l : List ℕ). given_in first.moves ++ l) second.given_are
          ∙ sym (flat_map-append given_by first.moves second.moves);
    }

    -- moves lead from the one state to the other, and use, send and end what those of a run do
    pub record ReachesBy (trace : List RunMove) (old : HostServer A) (store : S) (new : HostServer A) (left : S) : Type 0 where
      pub moves : List Move
      pub made : AllMade moves old store new left
      pub used_are : used_of 0 trace ≡ used_in moves
      pub given_are : given_to 0 trace ≡ given_in moves
      pub over_is : (over : Bool) → ended_after 0 over trace ≡ over_after over moves

    pub by_itself : (server : HostServer A) (store : S) → ReachesBy [] server store server store
    by_itself server store = record { moves = []; made = (refl, refl); used_are = refl; given_are = refl; over_is = λ over. refl }

    pub by_further : (old : HostServer A) (store : S) (middle : HostServer A) (then : S) (new : HostServer A) (left : S) (t u : List RunMove)
        → ReachesBy t old store middle then → ReachesBy u middle then new left → ReachesBy (t ++ u) old store new left
    by_further old store middle then new left t u first second = record {
      moves = first.moves ++ second.moves;
      made = all_made_append first.moves second.moves old store middle then new left first.made second.made;
      used_are = used_of-append 0 t u ∙ ap (λ (l : List ℕ). l ++ used_of 0 u) first.used_are
          ∙ ap (λ (l : List ℕ). used_in first.moves ++ l) second.used_are ∙ sym (flat_map-append used_by first.moves second.moves);
      given_are = given_to-append 0 t u ∙ ap (λ (l : List ℕ). l ++ given_to 0 u) first.given_are
          ∙ ap (λ (l : List ℕ). given_in first.moves ++ l) second.given_are ∙ sym (flat_map-append given_by first.moves second.moves);
      over_is = λ over. ended_after-append 0 over t u ∙ second.over_is (ended_after 0 over t)
          ∙ ap (λ (b : Bool). over_after b second.moves) (first.over_is over) ∙ sym (over_append first.moves second.moves over);
    }

    -- what a step of a host's server over its store does, by what it returns
    abbrev pub StepsOver : Option Turn → HostServer A → S → HostServer A → S → Type 0
    StepsOver (Some GivesPacket) old store new left = Reaches [] (bytes_of new) old store new left
    StepsOver (Some WaitsForInput) old store new left = Reaches [] [] old store new left × (reads_on new ≡ true)
    StepsOver (Some HasFinished) old store new left = Reaches [] [] old store new left × IsSome (outcome_of new)
    StepsOver None old store new left = Reaches [] [] old store new left

-- An answer that broke off ends its session, and while a request is answered the store received it.
use Rattle.std.proofs.Common.{arith, ◌≡◌, ℕ, Bool, true, false, ◌||◌, List, [], ◌∷◌, ◌++◌, refl, sym, ap, ◌∙◌, subst}
use Rattle.git_msg.specs.Asked.{Asked}
use Rattle.git_msg.specs.declared.streams.RequestStream.{RequestStream}
use Rattle.git_server.specs.declared.outcome.Outcome.{Outcome}
use Rattle.git_server.specs.declared.outcome.Outcome.TheVariants.{Flush, Closed, Refused}
use Rattle.git_host.specs.FetchPlaces.{is_before_pack, is_loss, is_pack}
use Rattle.git_host.specs.HostAnswers.{EndsAs, IsAskedFor, IsNeeded, LeavesAnswer, asks_wanted, is_broken, with_reported}
use Rattle.git_host.specs.HostServer.{EndsHost, HasReason, Hosts, HostsIn, IsLostIn, LeadsTo, ReadsTo, ReportsHost, StepsHost, WaitsFor, begun_in}
use Rattle.git_host.specs.HostServer.{given_with, is_answering, is_reading, with_last}
use Rattle.git_host.specs.HostSessions.{Facts, HostSetting}
use Rattle.git_store.specs.HostedRepository.{EndsWell}
use Rattle.git_store.specs.Questions.{Question, Reply}
use Rattle.git_store.specs.RepositoryRuns.{received_after}
use Rattle.git_store.specs.StoreMoves.{AllMade, Made, Move, asked, began, closed, facts_with, fed, gave, given_by, is_taken, over_with}
use Rattle.git_store.specs.StoreMoves.{rested, used_by}
use Rattle.git_host.specs.declared.fetch_answer.Step.{Step}
use Rattle.git_host.specs.declared.fetch_answer.Step.TheVariants.{AskHave, AskReady, AskBoundary, AskPack}
use Rattle.git_host.specs.declared.host_answer.HostAnswer.{HostAnswer}
use Rattle.git_host.specs.declared.host_answer.HostAnswer.TheVariants.{Admission, Fetch, References, Sizes, Whole}
use Rattle.git_host.specs.declared.host_server.HostServer.{HostServer}
use Rattle.git_host.specs.declared.host_server.Phase.{Phase}
use Rattle.git_host.specs.declared.host_server.Phase.TheVariants.{Advertising, Reading, Asked as WholeRequest, Answering, Refusing, Ended}
use Rattle.git_host.specs.declared.report.HostReported.{HostReported}
use Rattle.git_host.specs.declared.report.HostReported.TheVariants.{Packet, Taken, Hidden, NotAsked, MixedFormats, Unsorted, HeadTwice, NotShallow, OutOfMemory}
use Rattle.git_host.specs.declared.report.HostStep.{HostStep}
use Rattle.git_host.specs.declared.report.HostStep.TheVariants.{Packet as GivesPacket, NeedInput, Asked as AsksFor, Need as Needs, Ended as HasEnded}
use Rattle.git_host.specs.declared.report.Need.{Need}
use Rattle.git_host.specs.declared.report.Need.TheVariants as NeedOf
use Rattle.git_host.specs.declared.report.Report.{Report}
use Rattle.git_host.specs.declared.report.Report.TheVariants.{Failed}
use Rattle.git_store.proofs.StoreSteps.{one_move}

module _ {A : Type 0} where
  -- the answer broke off, or the session ended by a fault
  abbrev pub is_lost : Phase A → Bool
  is_lost (Answering answer) = is_broken answer
  is_lost (Ended (Refused fault)) = true
  is_lost phase = false

  lost_ended : (phase : Phase A) → IsLostIn phase → is_lost phase ≡ true
  lost_ended (Ended (Refused fault)) lost = refl
  lost_ended (Ended Flush) lost = absurd lost
  lost_ended (Ended Closed) lost = absurd lost
  lost_ended Advertising lost = absurd lost
  lost_ended Reading lost = absurd lost
  lost_ended (WholeRequest request) lost = absurd lost
  lost_ended (Answering answer) lost = absurd lost
  lost_ended (Refusing fault) lost = absurd lost

  lost_leads : (old new : Phase A) → LeadsTo old new → is_lost old ≡ true → is_lost new ≡ true
  lost_leads Advertising new leads lost = absurd (cc)
  lost_leads Reading new leads lost = absurd (cc)
  lost_leads (WholeRequest request) new leads lost = absurd (cc)
  lost_leads (Answering answer) new leads lost = lost_ended new (leads.0 lost)
  lost_leads (Refusing fault) new leads lost = absurd (cc)
  lost_leads (Ended outcome) new leads lost = ap is_lost leads ∙ lost

  lost_reads : (old new : Phase A) → ReadsTo old new → is_lost old ≡ true → is_lost new ≡ true
  lost_reads Reading new leads lost = absurd (cc)
  lost_reads Advertising new leads lost = absurd (cc)
  lost_reads (WholeRequest request) new leads lost = absurd (cc)
  lost_reads (Answering answer) new leads lost = ap is_lost leads ∙ lost
  lost_reads (Refusing fault) new leads lost = absurd (cc)
  lost_reads (Ended outcome) new leads lost = ap is_lost leads ∙ lost

  lost_unread : (phase : Phase A) → is_reading phase ≡ true → is_lost phase ≡ true → ⊥
  lost_unread Reading reads lost = cc
  lost_unread Advertising reads lost = cc
  lost_unread (WholeRequest request) reads lost = cc
  lost_unread (Answering answer) reads lost = cc
  lost_unread (Refusing fault) reads lost = cc
  lost_unread (Ended outcome) reads lost = cc

  lost_unasked : (phase : Phase A) → WaitsFor AsksFor phase → is_lost phase ≡ true → ⊥
  lost_unasked (WholeRequest request) waits lost = cc
  lost_unasked Reading waits lost = waits
  lost_unasked Advertising waits lost = waits
  lost_unasked (Answering answer) waits lost = waits
  lost_unasked (Refusing fault) waits lost = waits
  lost_unasked (Ended outcome) waits lost = waits

  -- a session that ended well is not lost
  pub well_unlost : (outcome : Outcome) (phase : Phase A) → phase ≡ Ended outcome → EndsWell outcome → is_lost phase ≡ false
  well_unlost Flush phase is well = ap is_lost is
  well_unlost Closed phase is well = ap is_lost is
  well_unlost (Refused fault) phase is well = absurd well

  -- an answer that broke off needs nothing
  needs_unbroken : (need : Need) (answer : HostAnswer A) → IsNeeded need answer → is_broken answer ≡ true → ⊥
  needs_unbroken need (Admission answer) needed broken = cc
  needs_unbroken need (References answer) needed broken = cc
  needs_unbroken need (Sizes answer) needed broken = cc
  needs_unbroken need Whole needed broken = cc
  needs_unbroken (NeedOf.Have at) (Fetch answer) needed broken =
      let both : is_loss (AskHave at) ≡ true = subst (λ (step : Step). is_loss step ≡ true) needed broken in cc
  needs_unbroken NeedOf.Ready (Fetch answer) needed broken =
      let both : is_loss AskReady ≡ true = subst (λ (step : Step). is_loss step ≡ true) needed broken in cc
  needs_unbroken NeedOf.Boundary (Fetch answer) needed broken =
      let both : is_loss AskBoundary ≡ true = subst (λ (step : Step). is_loss step ≡ true) needed broken in cc
  needs_unbroken NeedOf.Pack (Fetch answer) needed broken =
      let both : is_loss AskPack ≡ true = subst (λ (step : Step). is_loss step ≡ true) needed broken in cc
  needs_unbroken (NeedOf.Want at) (Fetch answer) needed broken = needed
  needs_unbroken (NeedOf.WantRef at) (Fetch answer) needed broken = needed
  needs_unbroken NeedOf.Reference (Fetch answer) needed broken = needed
  needs_unbroken (NeedOf.Size at) (Fetch answer) needed broken = needed

  needs_unlost : (need : Need) (phase : Phase A) → WaitsFor (Needs need) phase → is_lost phase ≡ true → ⊥
  needs_unlost need (Answering answer) waits lost = needs_unbroken need answer waits lost
  needs_unlost need Reading waits lost = waits
  needs_unlost need Advertising waits lost = waits
  needs_unlost need (WholeRequest request) waits lost = waits
  needs_unlost need (Refusing fault) waits lost = waits
  needs_unlost need (Ended outcome) waits lost = waits

  -- ---- the store fails

  failed_asked : (need : Need) (answer : HostAnswer A) → IsNeeded need answer → IsAskedFor Failed answer
  failed_asked (NeedOf.Want at) (Admission answer) needed = ap asks_wanted needed
  failed_asked (NeedOf.WantRef at) (Admission answer) needed = ap asks_wanted needed
  failed_asked (NeedOf.Have at) (Fetch answer) needed = ap (λ (step : Step). is_before_pack step || is_pack step) needed
  failed_asked NeedOf.Ready (Fetch answer) needed = ap (λ (step : Step). is_before_pack step || is_pack step) needed
  failed_asked NeedOf.Boundary (Fetch answer) needed = ap (λ (step : Step). is_before_pack step || is_pack step) needed
  failed_asked NeedOf.Pack (Fetch answer) needed = ap (λ (step : Step). is_before_pack step || is_pack step) needed
  failed_asked NeedOf.Reference (References answer) needed = tt
  failed_asked (NeedOf.Size at) (Sizes answer) needed = (at, needed)
  failed_asked need answer needed = absurd needed

  broken_by : (answer : HostAnswer A) → EndsAs Failed answer → is_broken answer ≡ true
  broken_by (Fetch answer) ends = ap is_loss ends
  broken_by (Admission answer) ends = absurd ends
  broken_by (References answer) ends = absurd ends
  broken_by (Sizes answer) ends = absurd ends
  broken_by Whole ends = absurd ends

  lost_by_failure : (old new : Phase A) → EndsHost Failed Packet old new → is_lost new ≡ true
  lost_by_failure old (Answering answer) ends = broken_by answer ends
  lost_by_failure old (Ended (Refused fault)) ends = refl
  lost_by_failure old (Ended Flush) ends = absurd ends
  lost_by_failure old (Ended Closed) ends = absurd ends
  lost_by_failure old Advertising ends = absurd ends
  lost_by_failure old Reading ends = absurd ends
  lost_by_failure old (WholeRequest request) ends = absurd ends
  lost_by_failure old (Refusing fault) ends = absurd ends

  no_failure_taken : (old new : Phase A) → EndsHost Failed Taken old new → ⊥
  no_failure_taken old (Answering answer) ends = ends
  no_failure_taken old (Ended outcome) ends = ends
  no_failure_taken old Advertising ends = ends
  no_failure_taken old Reading ends = ends
  no_failure_taken old (WholeRequest request) ends = ends
  no_failure_taken old (Refusing fault) ends = ends

  fails_answer : (need : Need) (answer : HostAnswer A) (what : HostReported) (new : Phase A) → IsNeeded need answer
      → HasReason Failed (Answering answer) what → EndsHost Failed what (Answering answer) new → is_lost new ≡ true
  fails_answer need answer Packet new needed why ends = lost_by_failure (Answering answer) new ends
  fails_answer need answer Taken new needed why ends = absurd (no_failure_taken (Answering answer) new ends)
  fails_answer need answer NotAsked new needed why ends = absurd (why (failed_asked need answer needed))
  fails_answer need answer Hidden new needed why ends = absurd why
  fails_answer need answer MixedFormats new needed why ends = absurd why
  fails_answer need answer Unsorted new needed why ends = absurd why
  fails_answer need answer HeadTwice new needed why ends = absurd why
  fails_answer need answer NotShallow new needed why ends = absurd why
  fails_answer need answer OutOfMemory new needed why ends = absurd why

  fails_in : (need : Need) (old : Phase A) (what : HostReported) (new : Phase A) → WaitsFor (Needs need) old → HasReason Failed old what
      → EndsHost Failed what old new → is_lost new ≡ true
  fails_in need (Answering answer) what new waits why ends = fails_answer need answer what new waits why ends
  fails_in need Reading what new waits why ends = absurd waits
  fails_in need Advertising what new waits why ends = absurd waits
  fails_in need (WholeRequest request) what new waits why ends = absurd waits
  fails_in need (Refusing fault) what new waits why ends = absurd waits
  fails_in need (Ended outcome) what new waits why ends = absurd waits

  -- a report that was refused leaves the server waiting for the same
  left_needs : (need : Need) (old new : HostAnswer A) → LeavesAnswer OutOfMemory old new → IsNeeded need old → IsNeeded need new
  left_needs (NeedOf.Want at) (Admission old) (Admission new) same needed = same.step ∙ needed
  left_needs (NeedOf.WantRef at) (Admission old) (Admission new) same needed = same.step ∙ needed
  left_needs need (Admission old) (Admission new) same needed = absurd needed
  left_needs need old new left needed = absurd left

  left_waits : (need : Need) (old new : Phase A) → EndsHost Failed OutOfMemory old new → WaitsFor (Needs need) old → WaitsFor (Needs need) new
  left_waits need (Answering old) (Answering new) left waits = left_needs need old new left waits
  left_waits need old new left waits = absurd left

  refused_waits : (need : Need) (report : Report) (why : HostReported) (old new : Phase A) → is_taken why ≡ false → EndsHost report why old new
      → WaitsFor (Needs need) old → WaitsFor (Needs need) new
  refused_waits need report NotAsked old new refused same waits = subst (λ (p : Phase A). WaitsFor (Needs need) p) (sym same) waits
  refused_waits need report MixedFormats old new refused same waits = subst (λ (p : Phase A). WaitsFor (Needs need) p) (sym same) waits
  refused_waits need report Unsorted old new refused same waits = subst (λ (p : Phase A). WaitsFor (Needs need) p) (sym same) waits
  refused_waits need report HeadTwice old new refused same waits = subst (λ (p : Phase A). WaitsFor (Needs need) p) (sym same) waits
  refused_waits need report NotShallow old new refused same waits = subst (λ (p : Phase A). WaitsFor (Needs need) p) (sym same) waits
  refused_waits need report OutOfMemory old new refused left waits = left_waits need old new left waits
  refused_waits need report Packet old new refused ends waits = absurd (cc)
  refused_waits need report Taken old new refused ends waits = absurd (cc)
  refused_waits need report Hidden old new refused ends waits = absurd (cc)

  -- ---- while a request is answered, the store received it

  answering_leads : (old new : Phase A) → LeadsTo old new → is_answering new ≡ true → is_answering old ≡ true
  answering_leads (Answering answer) new leads is = refl
  answering_leads Advertising new leads is = absurd (let none : is_answering new ≡ false = ap is_answering leads in cc)
  answering_leads (Refusing fault) new leads is = absurd (let none : is_answering new ≡ false = ap is_answering leads in cc)
  answering_leads Reading new leads is = ap is_answering (sym leads) ∙ is
  answering_leads (WholeRequest request) new leads is = ap is_answering (sym leads) ∙ is
  answering_leads (Ended outcome) new leads is = ap is_answering (sym leads) ∙ is

  pub received_fed : (received : Bool) (old new : Phase A) → ReadsTo old new → (is_answering old ≡ true → received ≡ true) → is_answering new ≡ true
      → received_after received (begun_in old new) ≡ true
  received_fed received Reading new none was is = absurd (cc)
  received_fed received Advertising new same was is = was (ap is_answering (sym same) ∙ is)
  received_fed received (WholeRequest request) new same was is = was (ap is_answering (sym same) ∙ is)
  received_fed received (Answering answer) new same was is = was (ap is_answering (sym same) ∙ is)
  received_fed received (Refusing fault) new same was is = was (ap is_answering (sym same) ∙ is)
  received_fed received (Ended outcome) new same was is = was (ap is_answering (sym same) ∙ is)

  needs_answering : (need : Need) (phase : Phase A) → WaitsFor (Needs need) phase → is_answering phase ≡ true
  needs_answering need (Answering answer) waits = refl
  needs_answering need Reading waits = absurd waits
  needs_answering need Advertising waits = absurd waits
  needs_answering need (WholeRequest request) waits = absurd waits
  needs_answering need (Refusing fault) waits = absurd waits
  needs_answering need (Ended outcome) waits = absurd waits

  -- no request is answered where nothing was used, or once the input has ended
  pub first_unanswered : (phase : Phase A) (s : HostSetting) (facts : List Facts) (given : List ℕ) (stream : RequestStream A) (flush : ℕ)
      → HostsIn phase s [] false facts given stream flush → is_answering phase ≡ true → ⊥
  first_unanswered (Answering answer) s facts given stream flush h is = absurd (omega (arith, h.at))
  first_unanswered Reading s facts given stream flush h is = cc
  first_unanswered Advertising s facts given stream flush h is = cc
  first_unanswered (WholeRequest request) s facts given stream flush h is = cc
  first_unanswered (Refusing fault) s facts given stream flush h is = cc
  first_unanswered (Ended outcome) s facts given stream flush h is = cc

  pub closed_unanswered : (phase : Phase A) (s : HostSetting) (used : List ℕ) (facts : List Facts) (given : List ℕ) (stream : RequestStream A) (flush : ℕ)
      → HostsIn phase s used true facts given stream flush → is_answering phase ≡ true → ⊥
  closed_unanswered (Answering answer) s used facts given stream flush h is = let on = h.reads.goes_on in cc
  closed_unanswered Reading s used facts given stream flush h is = cc
  closed_unanswered Advertising s used facts given stream flush h is = cc
  closed_unanswered (WholeRequest request) s used facts given stream flush h is = cc
  closed_unanswered (Refusing fault) s used facts given stream flush h is = cc
  closed_unanswered (Ended outcome) s used facts given stream flush h is = cc

  module _ (s : HostSetting) (used : List ℕ) (over : Bool) (facts : List Facts) (given : List ℕ) where
    -- where a step leads that sends nothing, and what it means that something is needed
    pub rest_leads : (step : HostStep) (old new : HostServer A) → StepsHost old step new → Hosts s used over facts given old
        → LeadsTo old.phase new.phase
    rest_leads GivesPacket old new steps h = (steps s used over facts given h).2
    rest_leads NeedInput old new steps h = (steps s used over facts given h).2
    rest_leads AsksFor old new steps h = (steps s used over facts given h).2
    rest_leads (Needs need) old new steps h = (steps s used over facts given h).2
    rest_leads (HasEnded outcome) old new steps h = (steps s used over facts given h).2

    pub was_answering : (step : HostStep) (old new : HostServer A) → StepsHost old step new → Hosts s used over facts given old
        → is_answering new.phase ≡ true → is_answering old.phase ≡ true
    was_answering step old new steps h = answering_leads old.phase new.phase (rest_leads step old new steps h)

    pub needs_received : (need : Need) (old asking : HostServer A) → StepsHost old (Needs need) asking → Hosts s used over facts given old
        → is_answering old.phase ≡ true
    needs_received need old asking steps h =
        let (stands, waits, leads) = steps s used over facts given h in
        answering_leads old.phase asking.phase leads (needs_answering need asking.phase waits)

    -- the store failed, or its reply was refused
    pub fails_lost : (need : Need) (old asking new : HostServer A) (what : HostReported) → StepsHost old (Needs need) asking
        → Hosts s used over facts given old → ReportsHost Failed asking what new → is_lost new.phase ≡ true
    fails_lost need old asking new what steps h fails =
        let (stands, waits, leads) = steps s used over facts given h in
        let (hosts, handed, why, ends) = fails s used over facts given stands in
        fails_in need asking.phase what new.phase waits why ends

    pub refused_lost : (need : Need) (old asking refusing new : HostServer A) (report : Report) (why what : HostReported) → StepsHost old (Needs need) asking
        → Hosts s used over facts given old → is_taken why ≡ false → ReportsHost report asking why refusing → ReportsHost Failed refusing what new
        → is_lost new.phase ≡ true
    refused_lost need old asking refusing new report why what steps h refused reports fails =
        let (stands, waits, leads) = steps s used over facts given h in
        let (hosts, handed, reason, ends) = reports s used over facts given stands in
        let still = refused_waits need report why asking.phase refusing.phase refused ends waits in
        let (left, sent, because, ended) = fails s used over (with_last (with_reported why report) facts) (given ++ given_with why refusing.stream) hosts in
        fails_in need refusing.phase what new.phase still because ended

  module _ {S : Type 0} (begins : S → Asked → S → Type 0) (replies : S → Question → Reply → S → Type 0) (s : HostSetting) where
    -- after a move a session that is lost is lost
    lost_move : (move : Move) (old : HostServer A) (store : S) (new : HostServer A) (left : S) → Made begins replies move old store new left
        → (used : List ℕ) (over : Bool) (facts : List Facts) (given : List ℕ) → Hosts s used over facts given old → is_lost old.phase ≡ true
        → is_lost new.phase ≡ true
    lost_move (fed bytes begun) old store new left (feeds, is, kept) used over facts given h lost =
        lost_reads old.phase new.phase (feeds s used over facts given h).1 lost
    lost_move closed old store new left (closes, kept) used over facts given h lost = absurd (lost_unread old.phase closes.0 lost)
    lost_move (gave bytes) old store new left (steps, is, kept) used over facts given h lost =
        lost_leads old.phase new.phase (steps s used over facts given h).2 lost
    lost_move rested old store new left (step, rest, steps, kept) used over facts given h lost =
        lost_leads old.phase new.phase (rest_leads s used over facts given step old new steps h) lost
    lost_move (began q) old store new left (asking, steps, b, is) used over facts given h lost =
        let (stands, waits, leads) = steps s used over facts given h in
        absurd (lost_unasked asking.phase waits (lost_leads old.phase asking.phase leads lost))
    lost_move (asked need question reply outturn bytes) old store new left (asking, steps, answers, is) used over facts given h lost =
        let (stands, waits, leads) = steps s used over facts given h in
        absurd (needs_unlost need asking.phase waits (lost_leads old.phase asking.phase leads lost))

    pub lost_moves : (moves : List Move) (old : HostServer A) (store : S) (new : HostServer A) (left : S) → AllMade begins replies moves old store new left
        → (used : List ℕ) (over : Bool) (facts : List Facts) (given : List ℕ) → Hosts s used over facts given old → is_lost old.phase ≡ true
        → is_lost new.phase ≡ true
    lost_moves [] old store new left (same, kept) used over facts given h lost = ap (λ (x : HostServer A). is_lost x.phase) same ∙ lost
    lost_moves (move ∷ moves) old store new left (middle, between, made, more) used over facts given h lost =
        lost_moves moves middle between new left more (used ++ used_by move) (over_with move over) (facts_with move facts) (given ++ given_by move)
        (one_move begins replies s move old store middle between made used over facts given h)
        (lost_move move old store middle between made used over facts given h lost)

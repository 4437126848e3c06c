-- What a host's server of some session waits for, and what its store is asked then.
use Rattle.std.proofs.Common.{◌≡◌, ℕ, zero, suc, ◌<◌, ◌⊎◌, inl, inr, Bool, true, false, List, ◌++◌, length, Option, IsSome}
use Rattle.std.proofs.Common.{refl, sym, subst, arith, slice_get}
use Rattle.std.specs.Option.{option_map}
use Rattle.std.proofs.Props.{props}
use Rattle.std.proofs.Math.Logic.{∥∥₁_elim, ∥∥₁_map}
use Rattle.std.proofs.lemmas.Option.{slice_get_cases}
use Rattle.git_pkt.specs.Packets.{Pkt}
use Rattle.git_msg.specs.Arguments.{Arg}
use Rattle.git_msg.specs.Asked.{Asked, fetch, ls_refs, object_info, only_negotiates, haves_in, oids_in, want_refs_in, wants_in}
use Rattle.git_server.specs.declared.outcome.Outcome.{Outcome}
use Rattle.git_msg.specs.declared.streams.RequestStream.{RequestStream}
use Rattle.git_host.specs.Admissions.{AdmissionFacts, RepresentsAdmission, StandsAtStep}
use Rattle.git_host.specs.Admissions.{asked_of as admission_asked, format_of as admission_format, wanted_by}
use Rattle.git_host.specs.FetchFacts.{FetchFacts}
use Rattle.git_host.specs.FetchPlaces.{StandsAt, asked_of as fetch_asked, step_at}
use Rattle.git_host.specs.HostAnswers.{IsAnswering, IsNeeded, Terms}
use Rattle.git_host.specs.HostLookups.{answered_by, at_hand}
use Rattle.git_host.specs.HostSessions.{Facts, HostSetting, of_fetch, of_references, of_sizes}
use Rattle.git_host.specs.HostServer.{ClosesHost, HostsIn, MovesHost, StepsHost, WaitsFor, fault_in, is_asked, is_reading}
use Rattle.git_host.specs.HostServer.{outcome_in, outcome_of, reads_on, terms_of}
use Rattle.git_host.specs.HostStates.{IsOfAHost, is_over, is_over_in}
use Rattle.git_store.specs.Questions.{Question, Reply, ask_have, ask_size, ask_want, ask_want_ref}
use Rattle.git_store.specs.StoreMoves.{Reaches, facts_after, given_in, over_after, question_at, question_by, used_in}
use Rattle.git_host.specs.declared.admission.Admission.{Admission as AdmissionMachine}
use Rattle.git_host.specs.declared.admission.AdmissionStep.{AdmissionStep}
use Rattle.git_host.specs.declared.fetch_answer.FetchAnswer.{FetchAnswer}
use Rattle.git_host.specs.declared.fetch_answer.Place.{Place}
use Rattle.git_host.specs.declared.fetch_answer.Place.TheVariants as At
use Rattle.git_host.specs.declared.fetch_answer.Step.TheVariants.{AskHave}
use Rattle.git_host.specs.declared.host_answer.HostAnswer.{HostAnswer}
use Rattle.git_host.specs.declared.host_answer.HostAnswer.TheVariants.{Admission, Fetch, References, Sizes, Whole}
use Rattle.git_host.specs.declared.host_server.HostServer.{HostServer}
use Rattle.git_host.specs.declared.host_server.Phase.{Phase}
use Rattle.git_host.specs.declared.host_server.Phase.TheVariants.{Advertising, Reading, Asked as WholeRequest, Answering, Refusing, Ended}
use Rattle.git_host.specs.declared.report.HostStep.TheVariants as Step
use Rattle.git_host.specs.declared.report.Need.{Need}
use Rattle.git_host.specs.declared.report.Need.TheVariants as Needs
use Rattle.git_store.proofs.StoreSteps.{any_moves}

-- ---- by the phase

module _ {A : Type 0} where
  reading_in : (phase : Phase A) → WaitsFor Step.NeedInput phase → (is_reading phase ≡ true) × (is_over_in phase ≡ false)
  reading_in Reading waits = (refl, refl)
  reading_in Advertising waits = absurd waits
  reading_in (WholeRequest request) waits = absurd waits
  reading_in (Answering answer) waits = absurd waits
  reading_in (Refusing fault) waits = absurd waits
  reading_in (Ended outcome) waits = absurd waits

  asked_in : (phase : Phase A) → WaitsFor Step.Asked phase → (is_asked phase ≡ true) × (is_over_in phase ≡ false)
  asked_in (WholeRequest request) waits = (refl, refl)
  asked_in Reading waits = absurd waits
  asked_in Advertising waits = absurd waits
  asked_in (Answering answer) waits = absurd waits
  asked_in (Refusing fault) waits = absurd waits
  asked_in (Ended outcome) waits = absurd waits

  answering_in : (need : Need) (phase : Phase A) → WaitsFor (Step.Need need) phase → is_over_in phase ≡ false
  answering_in need (Answering answer) waits = refl
  answering_in need Reading waits = absurd waits
  answering_in need Advertising waits = absurd waits
  answering_in need (WholeRequest request) waits = absurd waits
  answering_in need (Refusing fault) waits = absurd waits
  answering_in need (Ended outcome) waits = absurd waits

  ended_in : (outcome : Outcome) (phase : Phase A) → WaitsFor (Step.Ended outcome) phase → IsSome (outcome_in phase)
  ended_in outcome (Ended same) waits = refl
  ended_in outcome (Answering answer) waits = absurd waits
  ended_in outcome Reading waits = absurd waits
  ended_in outcome Advertising waits = absurd waits
  ended_in outcome (WholeRequest request) waits = absurd waits
  ended_in outcome (Refusing fault) waits = absurd waits

  -- a fault of the input is the end of it
  fault_over : (phase : Phase A) → IsSome (fault_in phase) → is_over_in phase ≡ true
  fault_over (Refusing fault) some = refl
  fault_over (Ended outcome) some = refl
  fault_over (Answering answer) some = absurd (cc)
  fault_over Reading some = absurd (cc)
  fault_over Advertising some = absurd (cc)
  fault_over (WholeRequest request) some = absurd (cc)

  -- once the input has ended the server is over
  closed_over : (phase : Phase A) (s : HostSetting) (used : List ℕ) (facts : List Facts) (given : List ℕ) (stream : RequestStream A) (flush : ℕ)
      → HostsIn phase s used true facts given stream flush → is_over_in phase ≡ true
  closed_over Advertising s used facts given stream flush h = let on = h.reads.goes_on in absurd (cc)
  closed_over Reading s used facts given stream flush h = let on = h.reads.goes_on in absurd (cc)
  closed_over (WholeRequest request) s used facts given stream flush h = let on = h.reads.goes_on in absurd (cc)
  closed_over (Answering answer) s used facts given stream flush h = let on = h.reads.goes_on in absurd (cc)
  closed_over (Refusing fault) s used facts given stream flush h = refl
  closed_over (Ended outcome) s used facts given stream flush h = refl

-- ---- what is asked

some_at : {X Y : Type 0} (f : X → Y) (xs : List X) (i : ℕ) → i < length xs → IsSome (option_map f (slice_get xs i))
some_at f xs i within =
    elim (slice_get_cases xs i).1 [
      | inl (x, inside, is, same) ↦ subst (λ (o : Option _). IsSome (option_map f o)) (sym is) refl
      | inr (past, none) ↦ absurd (omega (arith, past, within))
    ]

have_within : (alone : Bool) (place : Place) (at : ℕ) (q : List Arg) (t : FetchFacts) (front : List Pkt) → step_at alone place ≡ AskHave at
    → StandsAt place q t front → at < length (haves_in q)
have_within alone (At.Have next any) at q t front is h = let same : next ≡ at = cc in subst (λ (n : ℕ). n < length (haves_in q)) same h.more
have_within true At.Ready at q t front is h = absurd (cc)
have_within false At.Ready at q t front is h = absurd (cc)
have_within alone At.Header at q t front is h = absurd (cc)
have_within alone At.Nak at q t front is h = absurd (cc)
have_within alone At.Delimiter at q t front is h = absurd (cc)
have_within alone (At.Shallow any) at q t front is h = absurd (cc)
have_within alone (At.ShallowLine line) at q t front is h = absurd (cc)
have_within alone At.WantedHeader at q t front is h = absurd (cc)
have_within alone (At.Wanted next) at q t front is h = absurd (cc)
have_within alone At.WantedEnd at q t front is h = absurd (cc)
have_within alone At.PackHeader at q t front is h = absurd (cc)
have_within alone At.Pack at q t front is h = absurd (cc)
have_within alone At.Whole at q t front is h = absurd (cc)
have_within alone At.Broken at q t front is h = absurd (cc)

module _ {A : Type 0} where
  -- what an admission represents, and an answer to a fetch
  admitting_facts : (admission : AdmissionMachine A) (m : Terms) (q : Asked) (f : Facts) (front : List Pkt) → IsAnswering m (Admission admission) q f front
      → (a : AdmissionFacts) × RepresentsAdmission a admission
  admitting_facts admission m (fetch q) (of_fetch a t) front h = (a, h.represents)
  admitting_facts admission m (fetch q) (of_references t) front h = absurd h
  admitting_facts admission m (fetch q) (of_sizes sizes) front h = absurd h
  admitting_facts admission m (ls_refs q) (of_fetch a t) front h = absurd h
  admitting_facts admission m (ls_refs q) (of_references t) front h = absurd h
  admitting_facts admission m (ls_refs q) (of_sizes sizes) front h = absurd h
  admitting_facts admission m (object_info q) (of_fetch a t) front h = absurd h
  admitting_facts admission m (object_info q) (of_references t) front h = absurd h
  admitting_facts admission m (object_info q) (of_sizes sizes) front h = absurd h

  fetching_facts : (answer : FetchAnswer A) (m : Terms) (q : Asked) (f : Facts) (front : List Pkt) → IsAnswering m (Fetch answer) q f front
      → (t : FetchFacts) × StandsAt answer.place (fetch_asked answer) t front
  fetching_facts answer m (fetch q) (of_fetch a t) front h = (t, h.represents.stands)
  fetching_facts answer m (fetch q) (of_references t) front h = absurd h
  fetching_facts answer m (fetch q) (of_sizes sizes) front h = absurd h
  fetching_facts answer m (ls_refs q) (of_fetch a t) front h = absurd h
  fetching_facts answer m (ls_refs q) (of_references t) front h = absurd h
  fetching_facts answer m (ls_refs q) (of_sizes sizes) front h = absurd h
  fetching_facts answer m (object_info q) (of_fetch a t) front h = absurd h
  fetching_facts answer m (object_info q) (of_references t) front h = absurd h
  fetching_facts answer m (object_info q) (of_sizes sizes) front h = absurd h

  question_in : (need : Need) (answer : HostAnswer A) → IsNeeded need answer → (m : Terms) (q : Asked) (f : Facts) (front : List Pkt)
      → IsAnswering m answer q f front → IsSome (question_by (answered_by answer) need)
  question_in (Needs.Want at) (Admission admission) needed m q f front h =
      let (a, represents) = admitting_facts admission m q f front h in
      let stands = subst (λ (step : AdmissionStep). StandsAtStep step (admission_format admission) (admission_asked admission) a (wanted_by admission))
      needed represents in
      some_at ask_want (wants_in (admission_asked admission)) at stands.within
  question_in (Needs.WantRef at) (Admission admission) needed m q f front h =
      let (a, represents) = admitting_facts admission m q f front h in
      let stands = subst (λ (step : AdmissionStep). StandsAtStep step (admission_format admission) (admission_asked admission) a (wanted_by admission))
      needed represents in
      some_at ask_want_ref (want_refs_in (admission_asked admission)) at stands.within
  question_in (Needs.Have at) (Fetch answer) needed m q f front h =
      let (t, stands) = fetching_facts answer m q f front h in
      some_at ask_have (haves_in (fetch_asked answer)) at
      (have_within (only_negotiates (fetch_asked answer)) answer.place at (fetch_asked answer) t front needed stands)
  question_in Needs.Ready (Fetch answer) needed m q f front h = refl
  question_in Needs.Boundary (Fetch answer) needed m q f front h = refl
  question_in Needs.Pack (Fetch answer) needed m q f front h = refl
  question_in Needs.Reference (References answer) needed m q f front h = refl
  question_in (Needs.Size at) (Sizes answer) needed m q f front h = some_at ask_size (oids_in answer.request.asked) at needed.1
  question_in (Needs.Want at) (Fetch answer) needed m q f front h = absurd needed
  question_in (Needs.Want at) (References answer) needed m q f front h = absurd needed
  question_in (Needs.Want at) (Sizes answer) needed m q f front h = absurd needed
  question_in (Needs.Want at) Whole needed m q f front h = absurd needed
  question_in (Needs.WantRef at) (Fetch answer) needed m q f front h = absurd needed
  question_in (Needs.WantRef at) (References answer) needed m q f front h = absurd needed
  question_in (Needs.WantRef at) (Sizes answer) needed m q f front h = absurd needed
  question_in (Needs.WantRef at) Whole needed m q f front h = absurd needed
  question_in (Needs.Have at) (Admission admission) needed m q f front h = absurd needed
  question_in (Needs.Have at) (References answer) needed m q f front h = absurd needed
  question_in (Needs.Have at) (Sizes answer) needed m q f front h = absurd needed
  question_in (Needs.Have at) Whole needed m q f front h = absurd needed
  question_in Needs.Ready (Admission admission) needed m q f front h = absurd needed
  question_in Needs.Ready (References answer) needed m q f front h = absurd needed
  question_in Needs.Ready (Sizes answer) needed m q f front h = absurd needed
  question_in Needs.Ready Whole needed m q f front h = absurd needed
  question_in Needs.Boundary (Admission admission) needed m q f front h = absurd needed
  question_in Needs.Boundary (References answer) needed m q f front h = absurd needed
  question_in Needs.Boundary (Sizes answer) needed m q f front h = absurd needed
  question_in Needs.Boundary Whole needed m q f front h = absurd needed
  question_in Needs.Pack (Admission admission) needed m q f front h = absurd needed
  question_in Needs.Pack (References answer) needed m q f front h = absurd needed
  question_in Needs.Pack (Sizes answer) needed m q f front h = absurd needed
  question_in Needs.Pack Whole needed m q f front h = absurd needed
  question_in Needs.Reference (Admission admission) needed m q f front h = absurd needed
  question_in Needs.Reference (Fetch answer) needed m q f front h = absurd needed
  question_in Needs.Reference (Sizes answer) needed m q f front h = absurd needed
  question_in Needs.Reference Whole needed m q f front h = absurd needed
  question_in (Needs.Size at) (Admission admission) needed m q f front h = absurd needed
  question_in (Needs.Size at) (Fetch answer) needed m q f front h = absurd needed
  question_in (Needs.Size at) (References answer) needed m q f front h = absurd needed
  question_in (Needs.Size at) Whole needed m q f front h = absurd needed

  question_now_in : (need : Need) (phase : Phase A) (s : HostSetting) (used : List ℕ) (over : Bool) (facts : List Facts) (given : List ℕ)
      (stream : RequestStream A) (flush : ℕ) → HostsIn phase s used over facts given stream flush → WaitsFor (Step.Need need) phase
      → IsSome (question_by (at_hand phase) need)
  question_now_in need (Answering answer) s used over facts given stream flush h waits =
      question_in need answer waits (terms_of s) h.last.q h.last.f h.last.front h.last.last
  question_now_in need Reading s used over facts given stream flush h waits = absurd waits
  question_now_in need Advertising s used over facts given stream flush h waits = absurd waits
  question_now_in need (WholeRequest request) s used over facts given stream flush h waits = absurd waits
  question_now_in need (Refusing fault) s used over facts given stream flush h waits = absurd waits
  question_now_in need (Ended outcome) s used over facts given stream flush h waits = absurd waits

  -- ---- after a step of a server of some session

  module _ (old new : HostServer A) (session : ∥ IsOfAHost old ∥₁) where
    pub reads_now : StepsHost old Step.NeedInput new → (reads_on new ≡ true) × (is_over new ≡ false)
    reads_now steps = ∥∥₁_elim session (hlevel props) (λ (h : IsOfAHost old). reading_in new.phase (steps h.s h.used h.over h.facts h.given h.hosts).1)

    pub asked_now : StepsHost old Step.Asked new → (is_asked new.phase ≡ true) × (is_over new ≡ false)
    asked_now steps = ∥∥₁_elim session (hlevel props) (λ (h : IsOfAHost old). asked_in new.phase (steps h.s h.used h.over h.facts h.given h.hosts).1)

    pub needs_now : (need : Need) → StepsHost old (Step.Need need) new → IsSome (question_at new need) × (is_over new ≡ false)
    needs_now need steps = ∥∥₁_elim session (hlevel props) (λ (h : IsOfAHost old).
        let (hosts, waits, leads) = steps h.s h.used h.over h.facts h.given h.hosts in
        (question_now_in need new.phase h.s h.used h.over h.facts h.given new.stream new.flush hosts.stands waits, answering_in need new.phase waits))

    pub ended_now : (outcome : Outcome) → StepsHost old (Step.Ended outcome) new → IsSome (outcome_of new)
    ended_now outcome steps = ∥∥₁_elim session (hlevel props) (λ (h : IsOfAHost old).
        ended_in outcome new.phase (steps h.s h.used h.over h.facts h.given h.hosts).1)

    -- the input ends while it is read
    pub closes_now : (closed : Bool) → ClosesHost old closed new → reads_on old ≡ true → ClosesHost old true new
    closes_now true closes reads = closes
    closes_now false closes reads = absurd (∥∥₁_elim session (λ x y. absurd x) (λ (h : IsOfAHost old).
        let no = closes.1 h.s h.used h.over h.facts h.given h.hosts in cc))

    pub over_now : ClosesHost old true new → is_over new ≡ true
    over_now closes = ∥∥₁_elim session (hlevel props) (λ (h : IsOfAHost old).
        closed_over new.phase h.s h.used h.facts h.given new.stream new.flush (closes.2 h.s h.used h.over h.facts h.given h.hosts).stands)

    -- of a chunk with bytes one is used, or the input is refused
    pub uses_some : (chunk : List ℕ) (used : ℕ) → MovesHost old chunk used new → reads_on old ≡ true → 0 < length chunk
        → 0 < used ⊎ (is_over new ≡ true)
    uses_some chunk zero moves reads some = inr (∥∥₁_elim session (hlevel props) (λ (h : IsOfAHost old).
        elim (moves h.s h.used h.over h.facts h.given h.hosts reads some) [
          | inl used ↦ absurd (omega (arith, used))
          | inr fault ↦ fault_over new.phase fault
        ]))
    uses_some chunk (suc n) moves reads some = inl (omega (arith))

    -- moves keep a server to its session
    pub keeps_session : {S : Type 0} {begins : S → Asked → S → Type 0} {replies : S → Question → Reply → S → Type 0} {used given : List ℕ}
        {store left : S} → Reaches begins replies used given old store new left → ∥ IsOfAHost new ∥₁
    keeps_session {S} {begins} {replies} {used} {given} {store} {left} reaches = ∥∥₁_map session (λ (h : IsOfAHost old). record {
      s = h.s;
      used = h.used ++ used_in reaches.moves;
      over = over_after h.over reaches.moves;
      facts = facts_after h.facts reaches.moves;
      given = h.given ++ given_in reaches.moves;
      hosts = any_moves begins replies h.s reaches.moves old store new left reaches.made h.used h.over h.facts h.given h.hosts;
    })

    pub closed_session : ClosesHost old true new → ∥ IsOfAHost new ∥₁
    closed_session closes = ∥∥₁_map session (λ (h : IsOfAHost old). record {
      s = h.s;
      used = h.used;
      over = true;
      facts = h.facts;
      given = h.given;
      hosts = closes.2 h.s h.used h.over h.facts h.given h.hosts;
    })

-- Moves of a host's server and of a store that answers as a repository does: what was reported is what the repository answers.
use Rattle.std.proofs.Common.{arith, ◌≡◌, ◌⊎◌, ℕ, ◌<◌, Bool, true, false, List, [], ◌∷◌, ◌++◌, length, map, Option, Some, None, slice_get, take}
use Rattle.std.proofs.Common.{refl, sym, ap, ◌∙◌, subst, inl, inr, if◌then◌else◌, not, ◌&&◌, unwrap_or}
use Rattle.std.specs.Option.{ForSome, option_map}
use Rattle.std.proofs.lemmas.List.{length-map, length-take-le}
use Rattle.git_names.specs.ObjectName.{ObjectName}
use Rattle.git_names.specs.declared.object_format.Format.{Format}
use Rattle.git_pkt.specs.Packets.{Pkt}
use Rattle.git_msg.specs.declared.requests.Request.{Request}
use Rattle.git_msg.specs.Arguments.{Arg}
use Rattle.git_msg.specs.Asked.{Asked, fetch, ls_refs, object_info, only_negotiates, haves_in, oids_in, want_refs_in, wants_in}
use Rattle.git_msg.specs.Machine.HeldRequest.{asked_of}
use Rattle.git_server.specs.FetchAnswers.{is_ready_for, negotiates}
use Rattle.git_server.specs.Packs.{whole}
use Rattle.git_server.specs.Repository.{Entry, IsRising, Repository, found_ref}
use Rattle.git_host.specs.Admissions.{AdmissionFacts, AtWant, AtWantRef, StandsAtStep, asked_of as admission_asked, wanted_by}
use Rattle.git_host.specs.FetchFacts.{FetchFacts, IsFetchAnswerWhere, readiness, sends_pack}
use Rattle.git_host.specs.FetchPlaces.{StandsAt, asked_of as fetch_asked, step_at}
use Rattle.git_host.specs.HostAnswers.{IsAnswering, IsNeeded, Terms, with_reported}
use Rattle.git_host.specs.HostLookups.{answered_by}
use Rattle.git_host.specs.HostServer.{WaitsFor, begun_in}
use Rattle.git_host.specs.HostSessions.{AreAnswersBy, Facts, IsAnswerBy, nothing_for, of_fetch, of_references}
use Rattle.git_host.specs.HostSessions.{of_sizes}
use Rattle.git_store.specs.HostedRepository.{AllReportedBy, IsAdmittedBy, IsAdmittedByRepository, IsOfRepository}
use Rattle.git_store.specs.Questions.{IsReportOf, Question, Reply, ask_boundary, ask_have, ask_pack, ask_reference, ask_size, ask_want, ask_want_ref}
use Rattle.git_store.specs.Questions.{question_of, ready}
use Rattle.git_store.specs.RepoReplies.{IsReplyOf, named_after, place_after}
use Rattle.git_host.specs.RepositoryFacts.{AreFound}
use Rattle.git_store.specs.RepositoryRuns.{AllHaveTheirPacks, HasItsPack}
use Rattle.git_host.specs.SizesPlaces.{AtObject, StandsAtSizes, sizes_asked}
use Rattle.git_store.specs.StoreMoves.{is_taken, question_by}
use Rattle.git_host.specs.declared.admission.Admission.{Admission as AdmissionMachine}
use Rattle.git_host.specs.declared.admission.AdmissionStep.{AdmissionStep}
use Rattle.git_host.specs.declared.fetch_answer.FetchAnswer.{FetchAnswer}
use Rattle.git_host.specs.declared.fetch_answer.Place.{Place}
use Rattle.git_host.specs.declared.fetch_answer.Place.TheVariants.{Header, Have, Nak, Ready as AtReady, Delimiter, Shallow, ShallowLine, WantedHeader, Wanted}
use Rattle.git_host.specs.declared.fetch_answer.Place.TheVariants.{WantedEnd, PackHeader, Pack as AtPack, Whole as AtEnd, Broken as AtLoss}
use Rattle.git_host.specs.declared.fetch_answer.Step.TheVariants.{AskHave}
use Rattle.git_host.specs.declared.host_answer.HostAnswer.{HostAnswer}
use Rattle.git_host.specs.declared.host_answer.HostAnswer.TheVariants.{Admission, Fetch, References, Sizes, Whole as AllSent}
use Rattle.git_host.specs.declared.host_server.Phase.{Phase}
use Rattle.git_host.specs.declared.host_server.Phase.TheVariants.{Advertising, Reading, Asked as WholeRequest, Answering, Refusing, Ended}
use Rattle.git_host.specs.declared.references_answer.ReferencesAnswer.{ReferencesAnswer}
use Rattle.git_host.specs.declared.report.HostReported.{HostReported}
use Rattle.git_host.specs.declared.report.HostStep.TheVariants.{Asked as AsksFor, Need as Needs}
use Rattle.git_host.specs.declared.report.Need.{Need}
use Rattle.git_host.specs.declared.report.Need.TheVariants.{Want as NeedWant, WantRef as NeedWantRef, Have as NeedHave, Ready as NeedReady}
use Rattle.git_host.specs.declared.report.Need.TheVariants.{Boundary as NeedBoundary, Pack as NeedPack, Reference as NeedReference, Size as NeedSize}
use Rattle.git_host.specs.declared.report.Report.{Report}
use Rattle.git_host.specs.declared.sizes_answer.SizesAnswer.{SizesAnswer}
use Rattle.git_host.specs.declared.sizes_answer.SizesPlace.{SizesPlace}
use Rattle.git_host.proofs.FetchMoves.{item_there}
use Rattle.git_host.proofs.HostAnswerMoves.{none_needed}
use Rattle.git_store.proofs.RepositoryReports.{FetchSoFar, SoFar, front_all, one_have, one_line, one_part, one_ready, one_reference, one_size}
use Rattle.git_store.proofs.RepositoryReports.{one_want, one_want_ref}

-- ---- the reply to what an answer needs

item_asked : {X : Type 0} (make : X → Question) (xs : List X) (next : ℕ) (x : X) (question : Question) → slice_get xs next ≡ Some x
    → option_map make (slice_get xs next) ≡ Some question → question ≡ make x
item_asked make xs next x question here is = let both : Some question ≡ Some (make x) = sym is ∙ ap (option_map make) here in cc

some_is : (question other : Question) → Some other ≡ Some question → question ≡ other
some_is question other is = cc

have_at : (alone : Bool) (place : Place) (next : ℕ) (q : List Arg) (t : FetchFacts) (given : List Pkt) → step_at alone place ≡ AskHave next
    → StandsAt place q t given → (length t.has ≡ next) × (next < length (haves_in q))
have_at alone (Have at any) next q t given is h =
    let same : at ≡ next = cc in
    (h.so_far ∙ same, subst (λ (n : ℕ). n < length (haves_in q)) same h.more)
have_at true AtReady next q t given is h = absurd (cc)
have_at false AtReady next q t given is h = absurd (cc)
have_at alone Header next q t given is h = absurd (cc)
have_at alone Nak next q t given is h = absurd (cc)
have_at alone Delimiter next q t given is h = absurd (cc)
have_at alone (Shallow any) next q t given is h = absurd (cc)
have_at alone (ShallowLine line) next q t given is h = absurd (cc)
have_at alone WantedHeader next q t given is h = absurd (cc)
have_at alone (Wanted at) next q t given is h = absurd (cc)
have_at alone WantedEnd next q t given is h = absurd (cc)
have_at alone PackHeader next q t given is h = absurd (cc)
have_at alone AtPack next q t given is h = absurd (cc)
have_at alone AtEnd next q t given is h = absurd (cc)
have_at alone AtLoss next q t given is h = absurd (cc)

module _ {A : Type 0} (repo : Repository) (rising : IsRising repo.refs) (at : ℕ) (named : Bool) (what : HostReported) (taken : is_taken what ≡ true)
    (m : Terms) where
  admission_reply : (x : AdmissionMachine A) (q : List Arg) (a : AdmissionFacts) (t : FetchFacts) (front : List Pkt) (need : Need) (question : Question)
      (reply : Reply) (report : Report) → IsAnswering m (Admission x) (fetch q) (of_fetch a t) front → IsNeeded need (Admission x)
      → question_of (fetch q) need ≡ Some question → IsReplyOf repo at named question reply → IsReportOf need reply report
      → FetchSoFar repo at q a t
      → SoFar repo (place_after reply at) (named_after reply named) (fetch q) (with_reported what report (of_fetch a t))
  admission_reply x q a t front (NeedWant next) question reply report h needed asks is reports so =
      let stands = subst (λ (r : List Arg). AtWant next r a (wanted_by x)) h.asked
      (subst (λ (st : AdmissionStep). StandsAtStep st x.format (admission_asked x) a (wanted_by x)) needed h.represents) in
      let (id, here) = item_there (wants_in q) next stands.within in
      let count : length a.wants ≡ next =
      ap length stands.so_far ∙ length-map (take next (wants_in q)) (λ (i : ObjectName). true)
      ∙ length-take-le next (wants_in q) (omega (arith, stands.within)) in
      one_want repo rising at named what taken q a t so next id count here reply report
      (subst (λ (x : Question). IsReplyOf repo at named x reply) (item_asked ask_want (wants_in q) next id question here asks) is) reports
  admission_reply x q a t front (NeedWantRef next) question reply report h needed asks is reports so =
      let stands = subst (λ (r : List Arg). AtWantRef next x.format r a (wanted_by x)) h.asked
      (subst (λ (st : AdmissionStep). StandsAtStep st x.format (admission_asked x) a (wanted_by x)) needed h.represents) in
      let (name, here) = item_there (want_refs_in q) next stands.within in
      let count : length a.found ≡ next = ap length stands.found ∙ length-map (wanted_by x) (λ (i : ObjectName). Some i) ∙ stands.so_far in
      one_want_ref repo rising at named what taken q a t so next name count here reply report
      (subst (λ (x : Question). IsReplyOf repo at named x reply) (item_asked ask_want_ref (want_refs_in q) next name question here asks) is) reports
  admission_reply x q a t front need question reply report h needed asks is reports so = absurd needed

  fetch_reply : (x : FetchAnswer A) (q : List Arg) (a : AdmissionFacts) (t : FetchFacts) (front : List Pkt) (need : Need) (question : Question)
      (reply : Reply) (report : Report) → IsAnswering m (Fetch x) (fetch q) (of_fetch a t) front → IsNeeded need (Fetch x)
      → question_of (fetch q) need ≡ Some question → IsReplyOf repo at named question reply → IsReportOf need reply report
      → FetchSoFar repo at q a t
      → SoFar repo (place_after reply at) (named_after reply named) (fetch q) (with_reported what report (of_fetch a t))
  fetch_reply x q a t front (NeedHave next) question reply report h needed asks is reports so =
      let stands = subst (λ (r : List Arg). StandsAt x.place r t front) h.asked h.represents.stands in
      let (count, within) = have_at (only_negotiates (fetch_asked x)) x.place next q t front needed stands in
      let (id, here) = item_there (haves_in q) next within in
      one_have repo rising at named what taken q a t so next id count here reply report
      (subst (λ (x : Question). IsReplyOf repo at named x reply) (item_asked ask_have (haves_in q) next id question here asks) is) reports
  fetch_reply x q a t front NeedReady question reply report h needed asks is reports so =
      one_ready repo rising at named what taken q a t so reply report
      (subst (λ (x : Question). IsReplyOf repo at named x reply) (some_is question (ready q) asks) is) reports
  fetch_reply x q a t front NeedBoundary question reply report h needed asks is reports so =
      one_line repo rising at named what taken q a t so reply report
      (subst (λ (x : Question). IsReplyOf repo at named x reply) (some_is question (ask_boundary q) asks) is) reports
  fetch_reply x q a t front NeedPack question reply report h needed asks is reports so =
      one_part repo rising at named what taken q a t so reply report
      (subst (λ (x : Question). IsReplyOf repo at named x reply) (some_is question (ask_pack q) asks) is) reports
  fetch_reply x q a t front need question reply report h needed asks is reports so = absurd needed

  -- of whichever command
  abbrev pub RepliesTo : HostAnswer A → Asked → Facts → Type 0
  RepliesTo answer q f = (front : List Pkt) (need : Need) (question : Question) (reply : Reply) (report : Report) → IsAnswering m answer q f front
      → IsNeeded need answer → question_by (answered_by answer) need ≡ Some question → IsReplyOf repo at named question reply
      → IsReportOf need reply report → SoFar repo at named q f
      → SoFar repo (place_after reply at) (named_after reply named) q (with_reported what report f)

  references_reply : (x : ReferencesAnswer A) (q : List Arg) (t : _) → RepliesTo (References x) (ls_refs q) (of_references t)
  references_reply x q t front NeedReference question reply report h needed asks is reports so =
      one_reference repo rising at named what taken q t so reply report
      (subst (λ (x : Question). IsReplyOf repo at named x reply) (some_is question ask_reference asks) is) reports
  references_reply x q t front need question reply report h needed asks is reports so = absurd needed

  sizes_reply : (x : SizesAnswer A) (q : List Arg) (sizes : List (Option ℕ)) → RepliesTo (Sizes x) (object_info q) (of_sizes sizes)
  sizes_reply x q sizes front (NeedSize next) question reply report h needed asks is reports so =
      let stands = subst (λ (r : List Arg). AtObject next r sizes front) h.asked
      (subst (λ (p : SizesPlace). StandsAtSizes p (sizes_asked x) sizes front) needed.0 h.represents) in
      let within = subst (λ (r : List Arg). next < length (oids_in r)) h.asked needed.1 in
      let (id, here) = item_there (oids_in q) next within in
      let same = subst (λ (r : List Arg). question_of (object_info r) (NeedSize next) ≡ Some question) h.asked asks in
      one_size repo rising at named what taken q sizes so next id stands.so_far here reply report
      (subst (λ (x : Question). IsReplyOf repo at named x reply) (item_asked ask_size (oids_in q) next id question here same) is) reports
  sizes_reply x q sizes front need question reply report h needed asks is reports so = absurd needed

  pub one_reply : (answer : HostAnswer A) (q : Asked) (f : Facts) → RepliesTo answer q f
  one_reply (Admission x) (fetch q) (of_fetch a t) front need question reply report h needed asks is reports so =
      admission_reply x q a t front need question reply report h needed
      (subst (λ (r : List Arg). question_of (fetch r) need ≡ Some question) h.asked asks) is reports so
  one_reply (Fetch x) (fetch q) (of_fetch a t) front need question reply report h needed asks is reports so =
      fetch_reply x q a t front need question reply report h needed
      (subst (λ (r : List Arg). question_of (fetch r) need ≡ Some question) h.asked asks) is reports so
  one_reply (References x) (ls_refs q) (of_references t) front need question reply report h needed asks is reports so =
      references_reply x q t front need question reply report h needed asks is reports so
  one_reply (Sizes x) (object_info q) (of_sizes sizes) front need question reply report h needed asks is reports so =
      sizes_reply x q sizes front need question reply report h needed asks is reports so
  one_reply AllSent q f front need question reply report h needed asks is reports so = absurd (none_needed A need needed)
  one_reply answer q f front need question reply report h needed asks is reports so = absurd h

-- ---- what was reported for a request whose answer is whole

pub record FetchButPack (repo : Repository) (q : List Arg) (t : FetchFacts) : Type 0 where
  pub has : negotiates q ≡ true → t.has ≡ map repo.has (haves_in q)
  pub boundary : sends_pack q t ≡ true → t.boundary ≡ repo.boundaries q
  pub wanted : AreFound repo.refs (want_refs_in q) t.wanted
  pub ready : negotiates q ≡ true → readiness q t ≡ Some (is_ready_for repo q)
  pub progress : t.progress ≡ []

abbrev pub ButPack : Repository → Asked → Facts → Type 0
ButPack repo (ls_refs q) (of_references t) = (t.refs ≡ repo.refs) × (t.unborn ≡ repo.unborn_head)
ButPack repo (fetch q) (of_fetch a t) = IsAdmittedBy repo q a × FetchButPack repo q t
ButPack repo (object_info q) (of_sizes sizes) = sizes ≡ map repo.object_size (oids_in q)
ButPack repo q f = ⊥

abbrev pub AllButPack : Repository → List Asked → List Facts → Type 0
AllButPack repo [] [] = Unit {0}
AllButPack repo (q ∷ qs) (f ∷ fs) = ButPack repo q f × AllButPack repo qs fs
AllButPack repo qs fs = ⊥

all_haves : (b : Bool) (r : Option Bool) (q : List Arg) (t : FetchFacts) (packets : List Pkt) → IsFetchAnswerWhere b r whole q t packets → b ≡ true
    → length t.has ≡ length (haves_in q)
all_haves true (Some true) q t packets h is = h.0
all_haves true (Some false) q t packets h is = h.0
all_haves true None q t packets h is = absurd h
all_haves false r q t packets h is = absurd (cc)

boundary_over : (b : Bool) (r : Option Bool) (q : List Arg) (t : FetchFacts) (packets : List Pkt) → IsFetchAnswerWhere b r whole q t packets
    → (if b then unwrap_or r false else true) ≡ true → t.boundary_ended ≡ true
boundary_over true (Some true) q t packets h is = h.1.ended
boundary_over true (Some false) q t packets h is = absurd (cc)
boundary_over true None q t packets h is = absurd h
boundary_over false r q t packets h is = h.ended

-- whether the store is ready was reported where the request negotiates and may have a pack, as the repository answers
ready_so : (alone able b : Bool) (reported r : Option Bool) (q : List Arg) (t : FetchFacts) (packets : List Pkt)
    → IsFetchAnswerWhere b r whole q t packets → b ≡ true → r ≡ (if alone then Some false else reported)
    → ForSome reported (λ reply. reply ≡ able) → r ≡ Some (not alone && able)
ready_so true able true reported r q t packets h is from so = from
ready_so false able true (Some reply) r q t packets h is from so = from ∙ ap Some (so reply refl)
ready_so false able true None None q t packets h is from so = absurd h
ready_so false able true None (Some reply) q t packets h is from so = absurd (cc)
ready_so alone able false reported r q t packets h is from so = absurd (cc)

found_all : (refs : List Entry) (names : List (List ℕ)) (ids : List ObjectName) → map (found_ref refs) names ≡ map Some ids → AreFound refs names ids
found_all refs [] [] is = tt
found_all refs (name ∷ names) (id ∷ ids) is =
    let here : found_ref refs name ≡ Some id = cc in
    let later : map (found_ref refs) names ≡ map Some ids = cc in
    (here, found_all refs names ids later)
found_all refs [] (id ∷ ids) is = absurd (cc)
found_all refs (name ∷ names) [] is = absurd (cc)

whole_so : (repo : Repository) (at : ℕ) (named : Bool) (format : Format) (q : Asked) (f : Facts) (packets : List Pkt) → SoFar repo at named q f
    → IsAnswerBy whole format q f packets → ButPack repo q f
whole_so repo at named format (ls_refs q) (of_references t) packets so h = so.all h.ended
whole_so repo at named format (fetch q) (of_fetch a t) packets so h =
    let wants = front_all a.wants (map repo.has (wants_in q)) so.wants
    (omega (arith, length-map (wants_in q) repo.has, ap length h.0.there, length-map (wants_in q) (λ (id : ObjectName). true))) in
    let found = front_all a.found (map (found_ref repo.refs) (want_refs_in q)) so.found
    (omega (arith, length-map (want_refs_in q) (found_ref repo.refs), ap length h.0.found, length-map t.wanted (λ (id : ObjectName). Some id), h.0.all)) in (
      record { wants = wants; found = found },
      record {
        has = λ asks. front_all t.has (map repo.has (haves_in q)) so.has
            (omega (arith, length-map (haves_in q) repo.has, all_haves (negotiates q) (readiness q t) q t packets h.1.answer asks));
        boundary = λ sends. so.all (boundary_over (negotiates q) (readiness q t) q t packets h.1.answer sends);
        wanted = found_all repo.refs (want_refs_in q) t.wanted (sym found ∙ h.0.found);
        ready = λ asks. ready_so (only_negotiates q) (repo.is_ready q) (negotiates q) t.ready (readiness q t) q t packets h.1.answer asks refl so.ready;
        progress = so.progress;
      },
    )
whole_so repo at named format (object_info q) (of_sizes sizes) packets so h =
    front_all sizes (map repo.object_size (oids_in q)) so (omega (arith, length-map (oids_in q) repo.object_size, h.all))
whole_so repo at named format q f packets so h = absurd so

last_answer : (format : Format) (earlier : List Asked) (q : Asked) (fs : List Facts) (f : Facts) (packets : List Pkt)
    → AreAnswersBy format (earlier ++ q ∷ []) (fs ++ f ∷ []) packets → (answer : List Pkt) × IsAnswerBy whole format q f answer
last_answer format [] q [] f packets (answer, more, cut, is, rest) = (answer, is)
last_answer format [] q (g ∷ []) f packets (answer, more, cut, is, rest) = absurd rest
last_answer format [] q (g ∷ k ∷ fs) f packets (answer, more, cut, is, rest) = absurd rest
last_answer format (p ∷ []) q [] f packets (answer, more, cut, is, rest) = absurd rest
last_answer format (p ∷ r ∷ qs) q [] f packets (answer, more, cut, is, rest) = absurd rest
last_answer format (p ∷ qs) q (g ∷ fs) f packets (answer, more, cut, is, rest) = last_answer format qs q fs f more rest

all_with : (repo : Repository) (earlier : List Asked) (q : Asked) (fs : List Facts) (f : Facts) → AllButPack repo earlier fs → ButPack repo q f
    → AllButPack repo (earlier ++ q ∷ []) (fs ++ f ∷ [])
all_with repo [] q [] f all so = (so, tt)
all_with repo (p ∷ qs) q (g ∷ fs) f all so = (all.0, all_with repo qs q fs f all.1 so)
all_with repo [] q (g ∷ fs) f all so = absurd all
all_with repo (p ∷ qs) q [] f all so = absurd all

-- with their packs
with_pack : (repo : Repository) (q : Asked) (f : Facts) → ButPack repo q f → HasItsPack repo q f → IsAdmittedByRepository repo q f × IsOfRepository repo q f
with_pack repo (ls_refs q) (of_references t) so packed = (tt, so)
with_pack repo (fetch q) (of_fetch a t) so packed = (
  so.0,
  record {
    has = so.1.has;
    ready = so.1.ready;
    boundary = so.1.boundary;
    wanted = so.1.wanted;
    pack = packed;
    progress = so.1.progress;
  },
)
with_pack repo (object_info q) (of_sizes sizes) so packed = (tt, so)
with_pack repo q f so packed = absurd so

pub with_packs : (repo : Repository) (asked : List Asked) (facts : List Facts) → AllButPack repo asked facts → AllHaveTheirPacks repo asked facts
    → AllReportedBy repo asked facts
with_packs repo [] [] all packs = tt
with_packs repo (q ∷ qs) (f ∷ fs) all packs =
    let both = with_pack repo q f all.0 packs.0 in
    (both.0, both.1, with_packs repo qs fs all.1 packs.1)
with_packs repo [] (f ∷ fs) all packs = absurd all
with_packs repo (q ∷ qs) [] all packs = absurd all

-- ---- what was reported, and how far the store's counter states

-- each request but the last was reported on as the repository answers, and the last as far as so many replies; the store's counter states as
-- much where it received that request
pub record UpToLast (repo : Repository) (received : Bool) (at : ℕ) (named : Bool) (asked : List Asked) (facts : List Facts) : Type 0 where
  pub earlier : List Asked
  pub q : Asked
  pub earlier_facts : List Facts
  pub f : Facts
  pub asked_is : asked ≡ earlier ++ q ∷ []
  pub facts_are : facts ≡ earlier_facts ++ f ∷ []
  pub before : AllButPack repo earlier earlier_facts
  pub place : ℕ
  pub head : Bool
  pub so : SoFar repo place head q f
  pub synced : received ≡ true → (place ≡ at) × (head ≡ named)

abbrev pub Stands : Repository → Bool → ℕ → Bool → List Asked → List Facts → Type 0
Stands repo received at named asked facts = ((asked ≡ []) × (facts ≡ [])) ⊎ UpToLast repo received at named asked facts

-- where each answer is whole, all was reported so
pub all_so : (repo : Repository) (received : Bool) (at : ℕ) (named : Bool) (format : Format) (asked : List Asked) (facts : List Facts) (answers : List Pkt)
    → Stands repo received at named asked facts → AreAnswersBy format asked facts answers → AllButPack repo asked facts
all_so repo received at named format asked facts answers (inl none) answered =
    subst (λ (qs : List Asked). AllButPack repo qs facts) (sym none.0) (subst (AllButPack repo []) (sym none.1) tt)
all_so repo received at named format asked facts answers (inr h) answered =
    let both = subst (λ (fs : List Facts). AreAnswersBy format (h.earlier ++ h.q ∷ []) fs answers) h.facts_are
    (subst (λ (qs : List Asked). AreAnswersBy format qs facts answers) h.asked_is answered) in
    let (answer, is) = last_answer format h.earlier h.q h.earlier_facts h.f answers both in
    let so = whole_so repo h.place h.head format h.q h.f answer h.so is in
    subst (λ (qs : List Asked). AllButPack repo qs facts) (sym h.asked_is)
    (subst (AllButPack repo (h.earlier ++ h.q ∷ [])) (sym h.facts_are) (all_with repo h.earlier h.q h.earlier_facts h.f h.before so))

module _ {A : Type 0} where
  pub waits_whole : (phase : Phase A) → WaitsFor AsksFor phase → (request : Request A) × (phase ≡ WholeRequest request)
  waits_whole (WholeRequest request) h = (request, refl)
  waits_whole Advertising h = absurd h
  waits_whole Reading h = absurd h
  waits_whole (Answering answer) h = absurd h
  waits_whole (Refusing fault) h = absurd h
  waits_whole (Ended outcome) h = absurd h

  pub record WaitsForReply (need : Need) (phase : Phase A) : Type 0 where
    pub answer : HostAnswer A
    pub phase_is : phase ≡ Answering answer
    pub needed : IsNeeded need answer

  pub waits_reply : (need : Need) (phase : Phase A) → WaitsFor (Needs need) phase → WaitsForReply need phase
  waits_reply need (Answering answer) h = record { answer = answer; phase_is = refl; needed = h }
  waits_reply need (WholeRequest request) h = absurd h
  waits_reply need Advertising h = absurd h
  waits_reply need Reading h = absurd h
  waits_reply need (Refusing fault) h = absurd h
  waits_reply need (Ended outcome) h = absurd h

  pub record Came (old new : Phase A) : Type 0 where
    pub request : Request A
    pub read : old ≡ Reading
    pub whole_now : new ≡ WholeRequest request
    pub begun_is : begun_in old new ≡ nothing_for (asked_of request) ∷ []

  pub came_or_not : (old new : Phase A) → (begun_in old new ≡ []) ⊎ Came old new
  came_or_not Reading (WholeRequest request) = inr (record { request = request; read = refl; whole_now = refl; begun_is = refl })
  came_or_not Reading Advertising = inl refl
  came_or_not Reading Reading = inl refl
  came_or_not Reading (Answering answer) = inl refl
  came_or_not Reading (Refusing fault) = inl refl
  came_or_not Reading (Ended outcome) = inl refl
  came_or_not Advertising new = inl refl
  came_or_not (WholeRequest request) new = inl refl
  came_or_not (Answering answer) new = inl refl
  came_or_not (Refusing fault) new = inl refl
  came_or_not (Ended outcome) new = inl refl

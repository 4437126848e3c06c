-- Answers to requests, each by what one repository answers.
use Rattle.std.proofs.Common.{arith, ◌≡◌, ◌≢◌, ℕ, Bool, true, false, All, List, [], ◌∷◌, ◌++◌, length, map, drop, Option, Some, None, refl, sym, ap, ◌∙◌}
use Rattle.std.proofs.Common.{append-nil, inl, inr}
use Rattle.std.proofs.lemmas.List.Elements.{All-cons, All-nil}
use Rattle.git_names.specs.ObjectName.{ObjectName}
use Rattle.git_names.specs.declared.object_format.Format.{Format}
use Rattle.git_pkt.specs.Packets.{Pkt}
use Rattle.git_pkt.specs.Splits.{Given}
use Rattle.git_msg.specs.Arguments.{Arg}
use Rattle.git_msg.specs.Asked.{Asked, fetch, ls_refs, object_info, want_refs_in, wants_in}
use Rattle.git_server.specs.Packs.{whole}
use Rattle.git_msg.specs.WholeRequests.{AreRequests}
use Rattle.git_msg.specs.Machine.RequestStreams.{IsOne}
use Rattle.git_server.specs.Repository.{Repository, found_ref}
use Rattle.git_server.specs.Admission.{HasAsked}
use Rattle.git_server.specs.Answers.{AllFit, IsAnswer, spelled}
use Rattle.git_server.specs.Sessions.{AreAnswers, EndsBy, IsRequest, IsSession, IsTail}
use Rattle.git_server.specs.declared.outcome.Outcome.{Outcome}
use Rattle.git_server.specs.declared.outcome.Outcome.TheVariants.{Flush, Closed, Refused}
use Rattle.git_server.proofs.Sent.{spelled_both}
use Rattle.git_host.specs.Admissions.{AdmissionFacts, IsAdmitted, all_there}
use Rattle.git_host.specs.HostSessions.{AreAnswersBy, EndsByBytes, Facts, HostSetting, IsAnswerBy, IsHosted, StopsBy, advertised, of_fetch}
use Rattle.git_host.specs.HostSessions.{of_references, of_sizes}
use Rattle.git_store.specs.HostedRepository.{AllOfRepository, AllReportedBy, EndsWell, IsAdmittedBy, IsAdmittedByRepository, IsOfRepository}
use Rattle.git_store.specs.HostedRepository.{IsReportedBy, over_repository}
use Rattle.git_host.proofs.RepositoryFacts.{reported_answers}
use Rattle.git_host.proofs.SizesMoves.{references_answer, sizes_answer}

one_answer : (format : Format) (repo : Repository) (q : Asked) (f : Facts) (packets : List Pkt) → IsOfRepository repo q f
    → IsAnswerBy whole format q f packets → IsAnswer repo q packets
one_answer format repo (ls_refs q) (of_references t) packets of h = references_answer repo format q t packets of.0 of.1 h
one_answer format repo (ls_refs q) (of_fetch a t) packets of h = absurd of
one_answer format repo (ls_refs q) (of_sizes sizes) packets of h = absurd of
one_answer format repo (fetch q) (of_fetch a t) packets of h = reported_answers whole repo q t of packets h.1.answer
one_answer format repo (fetch q) (of_references t) packets of h = absurd of
one_answer format repo (fetch q) (of_sizes sizes) packets of h = absurd of
one_answer format repo (object_info q) (of_sizes sizes) packets of h = sizes_answer repo q sizes packets of h
one_answer format repo (object_info q) (of_fetch a t) packets of h = absurd of
one_answer format repo (object_info q) (of_references t) packets of h = absurd of

pub all_answers : (format : Format) (repo : Repository) (asked : List Asked) (reported : List Facts) (packets : List Pkt)
    → AllOfRepository repo asked reported → AreAnswersBy format asked reported packets → AreAnswers repo asked packets
all_answers format repo [] [] packets of h = h
all_answers format repo (q ∷ qs) (f ∷ fs) packets of (answer, more, cut, is, others) =
    (answer, more, cut, one_answer format repo q f answer of.0 is, all_answers format repo qs fs more of.1 others)
all_answers format repo [] (f ∷ fs) packets of h = absurd of
all_answers format repo (q ∷ qs) [] packets of h = absurd of

-- as many requests are answered as were reported on
pub as_many : (format : Format) (asked : List Asked) (reported : List Facts) (packets : List Pkt) → AreAnswersBy format asked reported packets
    → length asked ≡ length reported
as_many format [] [] packets h = refl
as_many format (q ∷ qs) (f ∷ fs) packets (answer, more, cut, is, others) = omega (arith, as_many format qs fs more others)
as_many format [] (f ∷ fs) packets h = absurd h
as_many format (q ∷ qs) [] packets h = absurd h

-- ---- a whole session

pub fit_both : (front back : List Pkt) → AllFit front → AllFit back → AllFit (front ++ back)
fit_both [] back a b = b
fit_both (p ∷ ps) back a b = (a.0, fit_both ps back a.1 b)

abbrev head_or : {X : Type 0} → X → List X → X
head_or d [] = d
head_or d (x ∷ xs) = x

none_some : {X : Type 0} (x : X) → None ≡ Some x → ⊥
none_some x e = cc

-- a repository that answers so has all that was admitted
pub has_all : (has : ObjectName → Bool) (ids : List ObjectName) (more : List Bool) → map has ids ≡ all_there ids ++ more → All (λ id. has id ≡ true) ids
has_all has [] more e = All-nil (λ (id : ObjectName). has id ≡ true)
has_all has (id ∷ ids) more e =
    All-cons (λ (x : ObjectName). has x ≡ true) id ids (ap (head_or false) e) (has_all has ids more (ap (drop 1) e))

finds_all : (find : List ℕ → Option ObjectName) (names : List (List ℕ)) (ids : List ObjectName) → map find names ≡ map Some ids
    → All (λ name. find name ≢ None) names
finds_all find [] ids e = All-nil (λ (name : List ℕ). find name ≢ None)
finds_all find (name ∷ names) [] e = absurd (cc)
finds_all find (name ∷ names) (id ∷ ids) e =
    All-cons (λ (x : List ℕ). find x ≢ None) name names (λ none. none_some id (sym none ∙ ap (head_or None) e)) (finds_all find names ids (ap (drop 1) e))

pub has_asked : (format : Format) (repo : Repository) (q : List Arg) (a : AdmissionFacts) (ids : List ObjectName) → IsAdmittedBy repo q a
    → IsAdmitted format q a ids → HasAsked repo (fetch q)
has_asked format repo q a ids of h = (
  has_all repo.has (wants_in q) [] (sym of.wants ∙ h.there ∙ sym (append-nil (all_there (wants_in q)))),
  finds_all (found_ref repo.refs) (want_refs_in q) ids (sym of.found ∙ h.found),
)

one_asked : (format : Format) (repo : Repository) (q : Asked) (f : Facts) (packets : List Pkt) → IsAdmittedByRepository repo q f
    → IsAnswerBy whole format q f packets → HasAsked repo q
one_asked format repo (ls_refs q) f packets of h = tt
one_asked format repo (object_info q) f packets of h = tt
one_asked format repo (fetch q) (of_fetch a t) packets of h = has_asked format repo q a t.wanted of h.0
one_asked format repo (fetch q) (of_references t) packets of h = absurd h
one_asked format repo (fetch q) (of_sizes sizes) packets of h = absurd h

module _ (s : HostSetting) (repo : Repository) (failures : ℕ) where
  pub as_requests : (packets left : List Given) (asked : List Asked) (reported : List Facts) (answers : List Pkt)
      → AreRequests (IsOne s.offer s.limit) packets asked left → AllReportedBy repo asked reported
      → AreAnswersBy s.offer.format asked reported answers → AreRequests (IsRequest (over_repository s repo failures)) packets asked left
  as_requests packets left [] [] answers h of answered = h
  as_requests packets left (q ∷ qs) (f ∷ fs) answers (front, more, cut, one, others) of (answer, later, parts, is, rest) = (
    front,
    more,
    cut,
    (one.0, one.1, one_asked s.offer.format repo q f answer of.0 is),
    as_requests more left qs fs later others of.2 rest,
  )
  as_requests packets left [] (f ∷ fs) answers h of answered = absurd of
  as_requests packets left (q ∷ qs) [] answers h of answered = absurd of

  pub as_answers : (asked : List Asked) (reported : List Facts) → AllReportedBy repo asked reported → AllOfRepository repo asked reported
  as_answers [] [] of = tt
  as_answers (q ∷ qs) (f ∷ fs) of = (of.1, as_answers qs fs of.2)
  as_answers [] (f ∷ fs) of = absurd of
  as_answers (q ∷ qs) [] of = absurd of

  module _ (used : List ℕ) (over : Bool) (reported : List Facts) (given : List ℕ) (of : IsReportedBy s repo used reported) where
    pub session : (outcome : Outcome) (before : List ℕ) (stops : StopsBy s used over reported before outcome)
        → EndsBy (over_repository s repo failures) over stops.left stops.rest (length used) outcome → (tail : List Pkt) → AllFit tail
        → given ≡ before ++ spelled tail → IsTail (over_repository s repo failures) stops.left outcome tail
        → IsSession (over_repository s repo failures) used over given outcome
    session outcome before stops ends tail fits is is_tail =
        let all = stops.all in
        let reports = of stops.asked stops.left stops.rest stops.are_asked
        (as_many s.offer.format stops.asked reported all.answers all.answered) in
        record {
          asked = stops.asked;
          left = stops.left;
          rest = stops.rest;
          answers = all.answers;
          stream = record {
            packets = stops.are_asked.packets;
            splits = stops.are_asked.splits;
            requests = as_requests stops.are_asked.packets stops.left stops.asked reported all.answers stops.are_asked.requests reports all.answered;
          };
          ends = ends;
          answered = all_answers s.offer.format repo stops.asked reported all.answers (as_answers stops.asked reported reports) all.answered;
          tail = tail;
          is_tail = is_tail;
          given_is = is ∙ ap (λ (l : List ℕ). l ++ spelled tail) all.given_is ∙ sym (spelled_both (advertised s ++ all.answers) tail);
          fit = fit_both (advertised s ++ all.answers) tail all.fit fits;
        }

    by_bytes : (outcome : Outcome) → EndsWell outcome → EndsByBytes s used over reported given outcome
        → IsSession (over_repository s repo failures) used over given outcome
    by_bytes Flush well h = session Flush h.before h.stops (h.stops.ends.1, h.stops.ends.2) [] tt h.given_is refl
    by_bytes Closed well h = session Closed h.before h.stops h.stops.ends [] tt h.given_is refl
    by_bytes (Refused fault) well h = absurd well

    pub hosted_session : (outcome : Outcome) → EndsWell outcome → IsHosted s used over reported given outcome
        → IsSession (over_repository s repo failures) used over given outcome
    hosted_session outcome well (inl h) = by_bytes outcome well h
    hosted_session Flush well (inr h) = absurd h
    hosted_session Closed well (inr h) = absurd h
    hosted_session (Refused fault) well (inr h) = absurd well

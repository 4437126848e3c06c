-- A session over a store that answers as a repository does: at each move what was reported has come as far as the store's counter states.
use Rattle.std.proofs.Common.{arith, ◌≡◌, ℕ, Bool, true, false, List, [], ◌∷◌, ◌++◌, length, Some}
use Rattle.std.proofs.Common.{refl, sym, ap, ◌∙◌, append_assoc, append-nil, length-append, subst, inl, inr}
use Rattle.std.proofs.lemmas.List.{same_from_push}
use Rattle.git_pkt.specs.Packets.{Pkt}
use Rattle.git_pkt.specs.Splits.{Given}
use Rattle.git_msg.proofs.Cuts.{not_empty}
use Rattle.git_msg.specs.Asked.{Asked}
use Rattle.git_msg.specs.Machine.HeldRequest.{asked_of, holding_of}
use Rattle.git_msg.specs.Machine.RequestStreams.{AreAsked}
use Rattle.git_server.specs.Repository.{IsRising, IsSound, RepoState, Repository}
use Rattle.git_server.specs.Sessions.{IsSession}
use Rattle.git_server.specs.declared.outcome.Outcome.{Outcome}
use Rattle.git_server.specs.declared.outcome.Outcome.TheVariants.{Flush, Closed, Refused}
use Rattle.git_host.specs.HostAnswers.{IsAnswering, with_reported}
use Rattle.git_host.specs.HostLookups.{at_hand}
use Rattle.git_host.specs.HostServer.{FeedsHost, Hosts, HostsIn, IsAtRequest, IsReading, IsUntouched, StepsHost, begun_in, is_answering}
use Rattle.git_host.specs.HostServer.{terms_of, with_last}
use Rattle.git_host.specs.HostSessions.{AreAnswersBy, AtLast, Facts, HostSetting, IsHosted, StopsBy, nothing_for}
use Rattle.git_store.specs.HostedRepository.{EndsWell, IsReportedBy, over_repository}
use Rattle.git_store.specs.Questions.{Question, Reply}
use Rattle.git_store.specs.RepoReplies.{BeginsAnew, IsReplyOf, RepliesAs, answers_of, named_after, place_after}
use Rattle.git_store.specs.RepositoryRuns.{ServesRepository, received_after}
use Rattle.git_store.specs.StoreMoves.{AllMade, Answers, Made, Move, asked as did_ask, began, closed, facts_after, facts_with, fed, gave, given_by, given_in}
use Rattle.git_store.specs.StoreMoves.{over_after, over_with, question_by, rested, used_by, used_in, was_none, was_refused, was_taken}
use Rattle.git_host.specs.declared.host_server.HostServer.{HostServer}
use Rattle.git_host.specs.declared.host_server.Phase.{Phase}
use Rattle.git_host.specs.declared.host_server.Phase.TheVariants.{Advertising, Reading, Asked as WholeRequest, Answering, Refusing, Ended}
use Rattle.git_host.specs.declared.report.HostReported.{HostReported}
use Rattle.git_host.specs.declared.report.HostStep.TheVariants.{Packet as GivesPacket, Asked as AsksFor, Need as Needs}
use Rattle.git_host.specs.declared.report.Need.{Need}
use Rattle.git_host.specs.declared.report.Report.{Report}
use Rattle.git_store.specs.declared.repo_store.RepoStore.{RepoStore}
use Rattle.git_store.proofs.AskedGrowth.{asked_grow, asked_once, none_more}
use Rattle.git_host.proofs.HostCallMoves.{ended_is}
use Rattle.git_host.proofs.HostBytes.{as_asked}
use Rattle.git_store.proofs.HostedAnswers.{as_many, hosted_session}
use Rattle.git_host.proofs.LentStreams.{last_on}
use Rattle.git_store.proofs.LostAnswers.{closed_unanswered, fails_lost, first_unanswered, is_lost, lost_moves, needs_received, received_fed, refused_lost}
use Rattle.git_store.proofs.LostAnswers.{was_answering, well_unlost}
use Rattle.git_store.proofs.RepositoryMoves.{AllButPack, Came, Stands, all_so, came_or_not, one_reply, waits_reply, waits_whole}
use Rattle.git_store.proofs.RepositoryMoves.{with_packs}
use Rattle.git_store.proofs.RepositoryReports.{SoFar, nothing_so_far, replies_as_well}
use Rattle.git_store.proofs.StoreSteps.{any_moves, one_move}

one_item : {X : Type 0} (xs : List X) → length xs ≡ 1 → (x : X) × (xs ≡ x ∷ [])
one_item [] one = absurd (omega (arith, one))
one_item {X = X} (x ∷ xs) one = (x, ap (λ (l : List X). x ∷ l) (none_more xs (omega (arith, one))))

-- ---- the requests of a state

many_at_last : (s : HostSetting) (asked : List Asked) (facts : List Facts) (given : List ℕ) (P : Asked → Facts → List Pkt → Type 0)
    → AtLast s asked facts given P → length asked ≡ length facts
many_at_last s asked facts given P h =
    omega (
      arith,
      ap length h.asked_is,
      ap length h.reported_is,
      length-append h.earlier (h.q ∷ []),
      length-append h.earlier_reported (h.f ∷ []),
      as_many s.offer.format h.earlier h.earlier_reported h.answers h.answered,
    )

record AskedOf (s : HostSetting) (used : List ℕ) (facts : List Facts) : Type 0 where
  asked : List Asked
  left : List Given
  rest : List ℕ
  are_asked : AreAsked s.offer s.limit used asked left rest
  many : length asked ≡ length facts

asked_by_stops : (s : HostSetting) (used : List ℕ) (over : Bool) (facts : List Facts) (given : List ℕ) (outcome : Outcome)
    → StopsBy s used over facts given outcome → AskedOf s used facts
asked_by_stops s used over facts given outcome h = record {
  asked = h.asked;
  left = h.left;
  rest = h.rest;
  are_asked = h.are_asked;
  many = as_many s.offer.format h.asked facts h.all.answers h.all.answered;
}

module _ (s : HostSetting) (used : List ℕ) (over : Bool) (facts : List Facts) (given : List ℕ) where
  asked_at_end : (outcome : Outcome) → IsHosted s used over facts given outcome → AskedOf s used facts
  asked_at_end outcome (inl h) = asked_by_stops s used over facts h.before outcome h.stops
  asked_at_end Flush (inr h) = absurd h
  asked_at_end Closed (inr h) = absurd h
  asked_at_end (Refused fault) (inr h) = record {
    asked = h.1.asked;
    left = [];
    rest = [];
    are_asked = h.1.are_asked;
    many = many_at_last s h.1.asked facts given _ h.1.last;
  }

  asked_in_phase : {A : Type 0} (phase : Phase A) (server : HostServer A) → HostsIn phase s used over facts given server.stream server.flush
      → AskedOf s used facts
  asked_in_phase Advertising server h = record {
    asked = [];
    left = h.reads.reads.left;
    rest = h.reads.reads.rest;
    are_asked = as_asked server.stream used [] h.reads.reads s h.reads.offer h.reads.limit;
    many = sym (ap length h.none_reported);
  }
  asked_in_phase Reading server h = record {
    asked = h.asked;
    left = h.reads.reads.left;
    rest = h.reads.reads.rest;
    are_asked = as_asked server.stream used h.asked h.reads.reads s h.reads.offer h.reads.limit;
    many = as_many s.offer.format h.asked facts h.all.answers h.all.answered;
  }
  asked_in_phase (WholeRequest request) server h =
      record { asked = h.asked; left = []; rest = []; are_asked = h.are_asked; many = many_at_last s h.asked facts given _ h.last }
  asked_in_phase (Answering answer) server h =
      record { asked = h.asked; left = []; rest = []; are_asked = h.are_asked; many = many_at_last s h.asked facts given _ h.last }
  asked_in_phase (Refusing fault) server h = asked_by_stops s used over facts given (Refused fault) h.stops
  asked_in_phase (Ended outcome) server h = asked_at_end outcome h

-- a session that ended well: each request was answered
record AllDone (s : HostSetting) (used : List ℕ) (facts : List Facts) : Type 0 where
  asked : List Asked
  left : List Given
  rest : List ℕ
  are_asked : AreAsked s.offer s.limit used asked left rest
  answers : List Pkt
  answered : AreAnswersBy s.offer.format asked facts answers

done_by_stops : (s : HostSetting) (used : List ℕ) (over : Bool) (facts : List Facts) (given : List ℕ) (outcome : Outcome)
    → StopsBy s used over facts given outcome → AllDone s used facts
done_by_stops s used over facts given outcome h =
    record { asked = h.asked; left = h.left; rest = h.rest; are_asked = h.are_asked; answers = h.all.answers; answered = h.all.answered }

all_done : (s : HostSetting) (used : List ℕ) (over : Bool) (facts : List Facts) (given : List ℕ) (outcome : Outcome) → EndsWell outcome
    → IsHosted s used over facts given outcome → AllDone s used facts
all_done s used over facts given Flush well (inl h) = done_by_stops s used over facts h.before Flush h.stops
all_done s used over facts given Closed well (inl h) = done_by_stops s used over facts h.before Closed h.stops
all_done s used over facts given (Refused fault) well h = absurd well
all_done s used over facts given Flush well (inr h) = absurd h
all_done s used over facts given Closed well (inr h) = absurd h

-- the names of a store's references rise, whatever packs it has
pub rises_as_well : {R P : Type 0} (state : R → RepoState) (repo : Repository) (store : RepoStore R P) → IsSound (answers_of state store)
    → record (answers_of state store) { pack = repo.pack } ≡ repo → IsRising repo.refs
rises_as_well state repo store sound is = subst (λ (r : Repository). IsRising r.refs) is sound.rising

module _ {R P : Type 0} (state : R → RepoState) (s : HostSetting) (repo : Repository) (rising : IsRising repo.refs) where
  -- what was reported stands so by the store's counter
  record Tracks (received : Bool) (used : List ℕ) (facts : List Facts) (store : RepoStore R P) : Type 0 where
    answers : record (answers_of state store) { pack = repo.pack } ≡ repo
    so : (asked : List Asked) (left : List Given) (rest : List ℕ) → AreAsked s.offer s.limit used asked left rest → length asked ≡ length facts
        → Stands repo received store.at store.named_unborn asked facts

  abbrev begins : RepoStore R P → Asked → RepoStore R P → Type 0
  begins old asked new = BeginsAnew state old new

  abbrev replies : RepoStore R P → Question → Reply → RepoStore R P → Type 0
  replies old question reply new = RepliesAs state old question reply new

  -- nothing was used, and the store did nothing
  stays : (received : Bool) (used : List ℕ) (facts : List Facts) (store left : RepoStore R P) → left ≡ store → Tracks received used facts store
      → Tracks received (used ++ []) facts left
  stays received used facts store left kept h =
      subst (λ (x : RepoStore R P). Tracks received (used ++ []) facts x) (sym kept)
      (subst (λ (u : List ℕ). Tracks received u facts store) (sym (append-nil used)) h)

  module _ {A : Type 0} (used : List ℕ) (over : Bool) (facts : List Facts) (given : List ℕ) where
    fed_none : (received : Bool) (bytes : List ℕ) (old : HostServer A) (store : RepoStore R P) → Hosts s used over facts given old
        → Tracks received used facts store → Tracks received (used ++ bytes) (facts ++ []) store
    fed_none received bytes old store hosts h = record {
      answers = h.answers;
      so = λ asked left rest are many.
          let was = asked_in_phase s used over facts given old.phase old hosts.stands in
          let same_many : length asked ≡ length facts = many ∙ ap length (append-nil facts) in
          let (further, is) = asked_grow s.offer s.limit used bytes was.asked asked was.left left was.rest rest was.are_asked are
          (omega (arith, same_many, was.many)) in
          let none = none_more further (omega (arith, ap length is, length-append was.asked further, same_many, was.many)) in
          let same : asked ≡ was.asked = is ∙ ap (λ (l : List Asked). was.asked ++ l) none ∙ append-nil was.asked in
          subst (λ (fs : List Facts). Stands repo received store.at store.named_unborn asked fs) (sym (append-nil facts))
          (subst (λ (qs : List Asked). Stands repo received store.at store.named_unborn qs facts) (sym same)
          (h.so was.asked was.left was.rest was.are_asked was.many));
    }

    -- a request came
    fed_came : (received : Bool) (bytes : List ℕ) (old new : HostServer A) (store : RepoStore R P) (c : Came old.phase new.phase)
        → Hosts s used over facts given old → Hosts s (used ++ bytes) over (facts ++ nothing_for (asked_of c.request) ∷ []) given new
        → Tracks received used facts store → Tracks false (used ++ bytes) (facts ++ nothing_for (asked_of c.request) ∷ []) store
    fed_came received bytes old new store c hosts now h =
        let x = nothing_for (asked_of c.request) in
        let reading : IsReading s used over facts given old.stream =
        subst (λ (p : Phase A). HostsIn p s used over facts given old.stream old.flush) c.read hosts.stands in
        let r = reading.reads in
        let were = as_asked old.stream used reading.asked r.reads s r.offer r.limit in
        let many_before = as_many s.offer.format reading.asked facts reading.all.answers reading.all.answered in
        let at : IsAtRequest s (used ++ bytes) over (facts ++ x ∷ []) given new.stream new.flush (IsUntouched s.limit (holding_of c.request)) =
        subst (λ (p : Phase A). HostsIn p s (used ++ bytes) over (facts ++ x ∷ []) given new.stream new.flush) c.whole_now now.stands in
        let last = at.last in
        let many_now = many_at_last s at.asked (facts ++ x ∷ []) given _ last in
        let one_fact = length-append facts (x ∷ []) in
        let (further, is) = asked_grow s.offer s.limit used bytes reading.asked at.asked r.reads.left [] r.reads.rest [] were at.are_asked
        (omega (arith, many_before, many_now, one_fact)) in
        let (y, single) = one_item further
        (omega (arith, many_before, many_now, one_fact, ap length is, length-append reading.asked further)) in
        let asked_ends = same_from_push reading.asked last.earlier y last.q
        (ap (λ (l : List Asked). reading.asked ++ l) (sym single) ∙ sym is ∙ last.asked_is) in
        let fact_ends = same_from_push facts last.earlier_reported x last.f last.reported_is in
        let before = all_so repo received store.at store.named_unborn s.offer.format reading.asked facts reading.all.answers
        (h.so reading.asked r.reads.left r.reads.rest were many_before) reading.all.answered in
        record {
          answers = h.answers;
          so = λ asked left rest are many. inr (record {
            earlier = last.earlier;
            q = last.q;
            earlier_facts = facts;
            f = x;
            asked_is = asked_once s.offer s.limit (used ++ bytes) at.asked asked [] left [] rest at.are_asked are (many_now ∙ sym many) ∙ last.asked_is;
            facts_are = refl;
            before = subst (λ (qs : List Asked). AllButPack repo qs facts) asked_ends.0 before;
            place = 0;
            head = false;
            so = subst (SoFar repo 0 false last.q) (sym (fact_ends.1 ∙ last.last.nothing)) (nothing_so_far repo last.q);
            synced = λ opened. absurd (cc);
          });
        }

    -- the store received the request at hand
    has_begun : (received : Bool) (old asking : HostServer A) (store left : RepoStore R P) → StepsHost old AsksFor asking → BeginsAnew state store left
        → Hosts s used over facts given old → Tracks received used facts store → Tracks true used facts left
    has_begun received old asking store left steps anew hosts h =
        let (stands, waits, leads) = steps s used over facts given hosts in
        let (request, phase_is) = waits_whole asking.phase waits in
        let at : IsAtRequest s used over facts given asking.stream asking.flush (IsUntouched s.limit (holding_of request)) =
        subst (λ (p : Phase A). HostsIn p s used over facts given asking.stream asking.flush) phase_is stands.stands in
        let last = at.last in
        let many_now = many_at_last s at.asked facts given _ last in
        record {
          answers = ap (λ (r : Repository). record r { pack = repo.pack }) anew.same ∙ h.answers;
          so = λ asked rest_packets rest are many.
              let same = asked_once s.offer s.limit used at.asked asked [] rest_packets [] rest at.are_asked are (many_now ∙ sym many) in
              elim (h.so asked rest_packets rest are many) as (λ x. Stands repo true left.at left.named_unborn asked facts) [
                | inl none ↦ absurd (not_empty last.earlier_reported last.f [] (sym none.1 ∙ last.reported_is))
                | inr u ↦
                    let asked_ends = same_from_push u.earlier last.earlier u.q last.q (sym u.asked_is ∙ same ∙ last.asked_is) in
                    let fact_ends = same_from_push u.earlier_facts last.earlier_reported u.f last.f (sym u.facts_are ∙ last.reported_is) in
                    let nothing : u.f ≡ nothing_for u.q = fact_ends.1 ∙ last.last.nothing ∙ ap nothing_for (sym asked_ends.1) in
                    inr (record {
                      earlier = u.earlier;
                      q = u.q;
                      earlier_facts = u.earlier_facts;
                      f = u.f;
                      asked_is = u.asked_is;
                      facts_are = u.facts_are;
                      before = u.before;
                      place = 0;
                      head = false;
                      so = subst (SoFar repo 0 false u.q) (sym nothing) (nothing_so_far repo u.q);
                      synced = λ opened. (sym anew.at, sym anew.unnamed);
                    })
              ];
        }

    -- the store was asked and replied, and the report was taken
    has_replied : (old asking new : HostServer A) (store left : RepoStore R P) (need : Need) (question : Question) (reply : Reply) (report : Report)
        (what : HostReported) → StepsHost old (Needs need) asking → Answers replies need question reply (was_taken report what) asking store new left
        → Hosts s used over facts given old → Tracks true used facts store
        → Tracks true used (with_last (with_reported what report) facts) left
    has_replied old asking new store left need question reply report what steps answers hosts h =
        let with = with_reported what report in
        let (stands, waits, leads) = steps s used over facts given hosts in
        let w = waits_reply need asking.phase waits in
        let at : IsAtRequest s used over facts given asking.stream asking.flush (IsAnswering (terms_of s) w.answer) =
        subst (λ (p : Phase A). HostsIn p s used over facts given asking.stream asking.flush) w.phase_is stands.stands in
        let last = at.last in
        let many_now = many_at_last s at.asked facts given _ last in
        let (reports, taken, does) = answers.turns_out in
        let asks = subst (λ (p : Phase A). question_by (at_hand p) need ≡ Some question) w.phase_is answers.is_asked in
        let replied = answers.replied in
        let is_reply = subst (λ (r : Repository). IsReplyOf r store.at store.named_unborn question reply) h.answers
        (replies_as_well (answers_of state store) repo.pack store.at store.named_unborn question reply replied.reply_is) in
        let as_long : length (with_last with facts) ≡ length facts =
        omega (
          arith,
          ap length last.reported_is,
          length-append last.earlier_reported (last.f ∷ []),
          ap length (ap (with_last with) last.reported_is ∙ last_on with last.earlier_reported last.f),
          length-append last.earlier_reported (with last.f ∷ []),
        ) in
        record {
          answers = ap (λ (r : Repository). record r { pack = repo.pack }) replied.same ∙ h.answers;
          so = λ asked rest_packets rest are many.
              let before_many : length asked ≡ length facts = many ∙ as_long in
              let same = asked_once s.offer s.limit used at.asked asked [] rest_packets [] rest at.are_asked are (many_now ∙ sym before_many) in
              elim (h.so asked rest_packets rest are before_many)
              as (λ x. Stands repo true left.at left.named_unborn asked (with_last with facts)) [
                | inl none ↦ absurd (not_empty last.earlier_reported last.f [] (sym none.1 ∙ last.reported_is))
                | inr u ↦
                    let asked_ends = same_from_push u.earlier last.earlier u.q last.q (sym u.asked_is ∙ same ∙ last.asked_is) in
                    let fact_ends = same_from_push u.earlier_facts last.earlier_reported u.f last.f (sym u.facts_are ∙ last.reported_is) in
                    let here = u.synced refl in
                    let so_far = subst (λ (n : ℕ). SoFar repo n store.named_unborn u.q u.f) here.0
                    (subst (λ (b : Bool). SoFar repo u.place b u.q u.f) here.1 u.so) in
                    let answering = subst (λ (q : Asked). IsAnswering (terms_of s) w.answer q u.f last.front) (sym asked_ends.1)
                    (subst (λ (f : Facts). IsAnswering (terms_of s) w.answer last.q f last.front) (sym fact_ends.1) last.last) in
                    inr (record {
                      earlier = u.earlier;
                      q = u.q;
                      earlier_facts = u.earlier_facts;
                      f = with u.f;
                      asked_is = u.asked_is;
                      facts_are = ap (with_last with) u.facts_are ∙ last_on with u.earlier_facts u.f;
                      before = u.before;
                      place = place_after reply store.at;
                      head = named_after reply store.named_unborn;
                      so = one_reply repo rising store.at store.named_unborn what taken (terms_of s) w.answer u.q u.f last.front need question reply report
                          answering w.needed asks is_reply reports so_far;
                      synced = λ opened. (sym replied.at, sym replied.named);
                    })
              ];
        }

    has_fed : (received : Bool) (bytes : List ℕ) (begun : List Facts) (old new : HostServer A) (store : RepoStore R P) → FeedsHost bytes old new
        → begun ≡ begun_in old.phase new.phase → Hosts s used over facts given old → Tracks received used facts store
        → Tracks (received_after received begun) (used ++ bytes) (facts ++ begun) store
    has_fed received bytes begun old new store feeds is hosts h = elim (came_or_not old.phase new.phase) [
      | inl none ↦
          subst (λ (fs : List Facts). Tracks (received_after received fs) (used ++ bytes) (facts ++ fs) store) (sym (is ∙ none))
          (fed_none received bytes old store hosts h)
      | inr c ↦
          let now = subst (λ (fs : List Facts). Hosts s (used ++ bytes) over (facts ++ fs) given new) c.begun_is (feeds s used over facts given hosts).0 in
          subst (λ (fs : List Facts). Tracks (received_after received fs) (used ++ bytes) (facts ++ fs) store) (sym (is ∙ c.begun_is))
          (fed_came received bytes old new store c hosts now h)
    ]

  -- the state after the moves
  abbrev TracksOn : List ℕ → List Facts → RepoStore R P → Type 0
  TracksOn used facts store = (received : Bool) × Tracks received used facts store

  -- a session that was lost does not end well
  ends_lost : {A : Type 0} (moves : List Move) (move : Move) (old : HostServer A) (store : RepoStore R P) (next : HostServer A) (then : RepoStore R P)
      (new : HostServer A) (left : RepoStore R P) → Made begins replies move old store next then → AllMade begins replies moves next then new left
      → (used : List ℕ) (over : Bool) (facts : List Facts) (given : List ℕ) → Hosts s used over facts given old → is_lost next.phase ≡ true
      → is_lost new.phase ≡ false → ⊥
  ends_lost moves move old store next then new left made more used over facts given hosts lost well =
      let later = lost_moves begins replies s moves next then new left more (used ++ used_by move) (over_with move over) (facts_with move facts)
      (given ++ given_by move) (one_move begins replies s move old store next then made used over facts given hosts) lost in
      cc

  run : {A : Type 0} (received : Bool) (moves : List Move) (old : HostServer A) (store : RepoStore R P) (new : HostServer A) (left : RepoStore R P)
      → AllMade begins replies moves old store new left → is_lost new.phase ≡ false
      → (used : List ℕ) (over : Bool) (facts : List Facts) (given : List ℕ) → Hosts s used over facts given old
      → (is_answering old.phase ≡ true → received ≡ true) → Tracks received used facts store
      → TracksOn (used ++ used_in moves) (facts_after facts moves) left
  run received [] old store new left (same, kept) well used over facts given hosts was h = (received, stays received used facts store left kept h)
  run received (fed bytes fs ∷ moves) old store new left (next, then, made, more) well used over facts given hosts was h =
      let now = has_fed used over facts given received bytes fs old next store made.0 made.1 hosts h in
      let is_received : is_answering next.phase ≡ true → received_after received fs ≡ true =
      λ is. ap (received_after received) made.1 ∙ received_fed received old.phase next.phase (made.0 s used over facts given hosts).1 was is in
      let (o, later) = run (received_after received fs) moves next then new left more well (used ++ bytes) over (facts ++ fs) (given ++ [])
      (one_move begins replies s (fed bytes fs) old store next then made used over facts given hosts) is_received
      (subst (λ (x : RepoStore R P). Tracks (received_after received fs) (used ++ bytes) (facts ++ fs) x) (sym made.2) now) in
      (o, subst (λ (u : List ℕ). Tracks o u (facts_after (facts ++ fs) moves) left) (append_assoc used bytes (used_in moves)) later)
  run received (closed ∷ moves) old store new left (next, then, made, more) well used over facts given hosts was h =
      let ends = one_move begins replies s closed old store next then made used over facts given hosts in
      let (o, later) = run received moves next then new left more well (used ++ []) true facts (given ++ []) ends
      (λ is. absurd (closed_unanswered next.phase s (used ++ []) facts (given ++ []) next.stream next.flush ends.stands is))
      (stays received used facts store then made.1 h) in
      (o, subst (λ (u : List ℕ). Tracks o u (facts_after facts moves) left) (append_assoc used [] (used_in moves)) later)
  run received (gave bytes ∷ moves) old store new left (next, then, made, more) well used over facts given hosts was h =
      let (o, later) = run received moves next then new left more well (used ++ []) over facts (given ++ bytes)
      (one_move begins replies s (gave bytes) old store next then made used over facts given hosts)
      (λ is. was (was_answering s used over facts given GivesPacket old next made.0 hosts is)) (stays received used facts store then made.2 h) in
      (o, subst (λ (u : List ℕ). Tracks o u (facts_after facts moves) left) (append_assoc used [] (used_in moves)) later)
  run received (rested ∷ moves) old store new left (next, then, made, more) well used over facts given hosts was h =
      let (step, rest, steps, kept) = made in
      let (o, later) = run received moves next then new left more well (used ++ []) over facts (given ++ [])
      (one_move begins replies s rested old store next then made used over facts given hosts)
      (λ is. was (was_answering s used over facts given step old next steps hosts is)) (stays received used facts store then kept h) in
      (o, subst (λ (u : List ℕ). Tracks o u (facts_after facts moves) left) (append_assoc used [] (used_in moves)) later)
  run received (began q ∷ moves) old store new left (next, then, made, more) well used over facts given hosts was h =
      let (asking, steps, b, is) = made in
      let now = has_begun used over facts given received old asking store then steps b.begun hosts h in
      let (o, later) = run true moves next then new left more well (used ++ []) over facts (given ++ [])
      (one_move begins replies s (began q) old store next then made used over facts given hosts) (λ is. refl) (stays true used facts then then refl now) in
      (o, subst (λ (u : List ℕ). Tracks o u (facts_after facts moves) left) (append_assoc used [] (used_in moves)) later)
  run received (did_ask need question reply (was_taken report what) bytes ∷ moves) old store new left (next, then, made, more) well used over facts given
      hosts was h =
      let (asking, steps, answers, is) = made in
      let opened = subst (λ (b : Bool). Tracks b used facts store) (was (needs_received s used over facts given need old asking steps hosts)) h in
      let now = has_replied used over facts given old asking next store then need question reply report what steps answers hosts opened in
      let facts_now = with_last (with_reported what report) facts in
      let (o, later) = run true moves next then new left more well (used ++ []) over facts_now (given ++ bytes)
      (one_move begins replies s (did_ask need question reply (was_taken report what) bytes) old store next then made used over facts given hosts)
      (λ is. refl) (stays true used facts_now then then refl now) in
      (o, subst (λ (u : List ℕ). Tracks o u (facts_after facts_now moves) left) (append_assoc used [] (used_in moves)) later)
  run received (did_ask need question reply (was_none what) bytes ∷ moves) old store new left (next, then, made, more) well used over facts given hosts was h =
      let (asking, steps, answers, is) = made in
      let lost = fails_lost s used over facts given need old asking next what steps hosts answers.turns_out.1 in
      absurd (ends_lost moves (did_ask need question reply (was_none what) bytes) old store next then new left made more used over facts given hosts lost well)
  run received (did_ask need question reply (was_refused report why what) bytes ∷ moves) old store new left (next, then, made, more) well used over facts
      given hosts was h =
      let (asking, steps, answers, is) = made in
      let (refusing, reports, refused, does, fails) = answers.turns_out in
      let lost = refused_lost s used over facts given need old asking refusing next report why what steps hosts refused does fails in
      absurd (ends_lost moves (did_ask need question reply (was_refused report why what) bytes) old store next then new left made more used over facts given
      hosts lost well)

  module _ {A : Type 0} (moves : List Move) (outcome : Outcome) (first : HostServer A) (store : RepoStore R P) (last : HostServer A) (left : RepoStore R P)
      (ran : ServesRepository state s repo moves outcome first store last left) where
    ends_hosted : IsHosted s (used_in moves) (over_after false moves) (facts_after [] moves) (given_in moves) outcome
    ends_hosted =
        let hosts = any_moves begins replies s moves first store last left ran.made [] false [] [] ran.begins in
        subst (λ (p : Phase A). HostsIn p s (used_in moves) (over_after false moves) (facts_after [] moves) (given_in moves) last.stream last.flush)
        (ended_is last.phase outcome ran.ended) hosts.stands

    pub repository_reports : IsReportedBy s repo (used_in moves) (facts_after [] moves)
    repository_reports asked left_packets rest are many =
        let done = all_done s (used_in moves) (over_after false moves) (facts_after [] moves) (given_in moves) outcome ran.well ends_hosted in
        let before : Tracks false [] [] store = record {
          answers = ran.answers;
          so = λ qs gs bytes are_asked none. inl (none_more qs (omega (arith, none)), refl);
        } in
        let unlost = well_unlost outcome last.phase (ended_is last.phase outcome ran.ended) ran.well in
        let (received, tracks) = run false moves first store last left ran.made unlost [] false [] [] ran.begins
        (λ is. absurd (first_unanswered first.phase s [] [] first.stream first.flush ran.begins.stands is)) before in
        let many_done = as_many s.offer.format done.asked (facts_after [] moves) done.answers done.answered in
        let same = asked_once s.offer s.limit (used_in moves) done.asked asked done.left left_packets done.rest rest done.are_asked are
        (many_done ∙ sym many) in
        let answered = subst (λ (qs : List Asked). AreAnswersBy s.offer.format qs (facts_after [] moves) done.answers) (sym same) done.answered in
        with_packs repo asked (facts_after [] moves)
        (all_so repo received left.at left.named_unborn s.offer.format asked (facts_after [] moves) done.answers
        (tracks.so asked left_packets rest are many) answered) (ran.packs asked left_packets rest are many)

    pub repository_session : (failures : ℕ)
        → IsSession (over_repository s repo failures) (used_in moves) (over_after false moves) (given_in moves) outcome
    repository_session failures =
        hosted_session s repo failures (used_in moves) (over_after false moves) (facts_after [] moves) (given_in moves) repository_reports outcome ran.well
        ends_hosted

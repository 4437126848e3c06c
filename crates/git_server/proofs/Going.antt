-- A server that takes bytes goes on in its session, or ends it.
use Rattle.std.proofs.Common.{arith, ◌≡◌, ◌≢◌, ℕ, ◌+◌, ◌≤◌, Bool, true, false, List, [], ◌∷◌, ◌++◌, length, Option, Some, None, refl, sym, ap, ◌∙◌}
use Rattle.std.proofs.Common.{append-nil, subst, inl, inr}
use Rattle.git_pkt.specs.Packets.{Pkt}
use Rattle.git_pkt.specs.Faults.{StopsBy}
use Rattle.git_pkt.specs.Splits.{Given}
use Rattle.git_pkt.specs.Machine.PacketReader.{Reads, is_open, fault_of, ShownByFeed}
use Rattle.git_pkt.specs.declared.fault.Fault.{Fault}
use Rattle.git_pkt.specs.declared.fault.Kind.{Kind}
use Rattle.git_pkt.specs.declared.fault.Kind.TheVariants.{PackSource, RemoteError, Truncated, StreamTooLong}
use Rattle.git_msg.specs.Admission.{IsAnnouncedFor}
use Rattle.git_msg.specs.Asked.{Asked}
use Rattle.git_msg.specs.Machine.HeldRequest.{asked_of, kept_of, stored_of}
use Rattle.git_msg.specs.Requests.{Asks}
use Rattle.git_msg.specs.WholeRequests.{AreRequests}
use Rattle.git_msg.proofs.PacketFaults.{NotOfPackets}
use Rattle.git_msg.proofs.WholeRequests.{one_more_request, requests_more}
use Rattle.git_msg.specs.Machine.RequestReader.{Brings, IsBrought, IsCovered, IsWithin, Takes, offer_of, limit_in, kept_so_far}
use Rattle.git_msg.specs.declared.offers.Offer.{Offer}
use Rattle.git_msg.specs.declared.reader.RequestReader.{RequestReader}
use Rattle.git_msg.specs.declared.requests.Request.{Request}
use Rattle.git_msg.specs.declared.requests.Request.TheVariants.{LsRefs as OfLsRefs, Fetch as OfFetch, ObjectInfo as OfObjectInfo}
use Rattle.git_server.specs.declared.answer.Answer.TheVariants.{References, Fetching, Sizes}
use Rattle.git_server.specs.Repository.{Repository, RepoState}
use Rattle.git_server.specs.Admission.{barred}
use Rattle.git_server.specs.Packs.{Manner, whole, broken}
use Rattle.git_server.specs.FetchAnswers.{negotiates}
use Rattle.git_server.specs.Answers.{AllFit, IsAnswerAs, error_packet, spelled}
use Rattle.git_server.specs.Machine.AdvertisementLines.{advertisement_from}
use Rattle.git_server.specs.Sessions.{Begins, IsTail, IsTailBy, Setting, IsRequest, IsSent, IsAnswering, IsEnding, IsRefused, EndsBy}
use Rattle.git_server.specs.Machine.Phases.{FlushIsAt, LeftIn, MayBreak, AreUnsent, kept_in, outcome_in, reads_in, phase_after, refused_by, stored_in}
use Rattle.git_server.specs.Machine.AnsweredRequest.{IsAnswerFrom, answer_to, kept_with, stored_with, references_from, sizes_from}
use Rattle.git_server.specs.Machine.Server.{IsPackLost, Running, Serves, StandsBy, outcome_of, wants_input}
use Rattle.git_server.specs.Machine.ServerCalls.{Goes, ReadsFor, StopsInTime}
-- nothing was used or given, and one call after another
pub use Rattle.git_server.specs.Machine.Moved.{goes_join, goes_nowhere}
use Rattle.git_server.specs.declared.outcome.Outcome.{Outcome}
use Rattle.git_server.specs.declared.outcome.Outcome.TheVariants.{Flush, Refused}
use Rattle.git_msg.specs.declared.reader.ReadGot.{ReadGot}
use Rattle.git_msg.specs.declared.reader.ReadGot.TheVariants.{More, Request as Whole, Stop, Failed as RefusedPacket}
use Rattle.git_server.specs.declared.server.Phase.{Phase}
use Rattle.git_server.specs.declared.server.Phase.TheVariants.{Advertising, Between, Within, Answering, Refusing, Ended}
use Rattle.git_server.specs.declared.server.Server.{Server}
use Rattle.git_pkt.proofs.KnownRest.{sound_rest, none_between}
use Rattle.git_server.proofs.Admitted.{NotOfRepository, not_announced_for, request_had}
use Rattle.git_server.proofs.Begun.{begins_more, nothing_begins}
use Rattle.git_msg.proofs.StreamSteps.{stopped_by}
use Rattle.git_server.proofs.Outcomes.{failures_as, failures_end, other_lost}
use Rattle.git_server.proofs.FetchPackets.{some_fetch, whole_fetch}
use Rattle.git_server.proofs.Sent.{all_sent, one_more_asked}

-- an answer that was not begun is pending whole
whole_answer : {A : Type 0} (manner : Manner) (repo : Repository) (request : Request A) (later : List Pkt)
    → IsAnswerFrom manner repo (answer_to request) later → IsAnswerAs manner repo (asked_of request) later
whole_answer whole repo (OfLsRefs request) later h = h
whole_answer broken repo (OfLsRefs request) later h = h
whole_answer whole repo (OfObjectInfo request) later h = h
whole_answer broken repo (OfObjectInfo request) later h = h
whole_answer manner repo (OfFetch request) later h = whole_fetch manner repo request.asked (negotiates request.asked) later h

kept_to_answer : {A : Type 0} (request : Request A) → kept_with (answer_to request) ≡ kept_of request
kept_to_answer (OfLsRefs request) = refl
kept_to_answer (OfFetch request) = refl
kept_to_answer (OfObjectInfo request) = refl

stored_to_answer : {A : Type 0} (request : Request A) → stored_with (answer_to request) ≡ stored_of request
stored_to_answer (OfLsRefs request) = refl
stored_to_answer (OfFetch request) = refl
stored_to_answer (OfObjectInfo request) = refl

pub refused_outcome_by : (A : Type 0) (kind : Kind) (fault : Fault) → outcome_in {A = A} (refused_by kind fault) ≡ Some (Refused fault)
refused_outcome_by A RemoteError fault = refl
refused_outcome_by A _ fault = refl

pub refused_unsent_by : (A : Type 0) (offer : Offer) (s : Setting) (left : List Given) (kind : Kind) (fault : Fault) (unsent : List Pkt) → kind ≢ PackSource
    → AreUnsent {A = A} offer s.repo (refused_by kind fault) unsent → IsTailBy kind s left fault unsent
refused_unsent_by A offer s left PackSource fault unsent other has_unsent = absurd (other refl)
refused_unsent_by A offer s left RemoteError fault unsent other has_unsent = sym has_unsent
refused_unsent_by A offer s left kind fault unsent other has_unsent = sym has_unsent

module _ {A : Type 0} where
  -- a server that waits for bytes is between two requests or within one
  waiting : (P : Phase A → Type 0) → P Between → P Within → (phase : Phase A) → reads_in phase ≡ true → P phase
  waiting P between within Between h = between
  waiting P between within Within h = within
  waiting P between within (Advertising line) h = absurd (cc)
  waiting P between within (Answering answer offset) h = absurd (cc)
  waiting P between within (Refusing fault) h = absurd (cc)
  waiting P between within (Ended outcome) h = absurd (cc)

  pub is_within : (phase : Phase A) → reads_in phase ≡ true → (phase ≡ Between → ⊥) → phase ≡ Within
  is_within = waiting (λ (p : Phase A). (p ≡ Between → ⊥) → p ≡ Within) (λ not. absurd (not refl)) (λ not. refl)

  -- it has no outcome, keeps no request to answer, and has nothing to send
  pub no_outcome : (phase : Phase A) → reads_in phase ≡ true → outcome_in phase ≡ None
  no_outcome = waiting (λ (p : Phase A). outcome_in p ≡ None) refl refl

  pub none_kept : (phase : Phase A) → reads_in phase ≡ true → kept_in phase ≡ 0
  none_kept = waiting (λ (p : Phase A). kept_in p ≡ 0) refl refl

  pub nothing_unsent : (offer : Offer) (repo : Repository) (phase : Phase A) → reads_in phase ≡ true → AreUnsent offer repo phase []
  nothing_unsent offer repo = waiting (λ (p : Phase A). AreUnsent offer repo p []) refl refl

  pub nothing_left_unsent : (offer : Offer) (repo : Repository) (phase : Phase A) (unsent : List Pkt) → reads_in phase ≡ true
      → AreUnsent offer repo phase unsent → unsent ≡ []
  nothing_left_unsent offer repo phase unsent =
      waiting (λ (p : Phase A). AreUnsent offer repo p unsent → unsent ≡ []) (λ has_unsent. has_unsent) (λ has_unsent. has_unsent) phase

  -- nor does an answer break off then
  pub none_breaks : (repo : Repository) (phase : Phase A) (unsent : List Pkt) → reads_in phase ≡ true → MayBreak repo phase unsent → ⊥
  none_breaks repo phase unsent = waiting (λ (p : Phase A). MayBreak repo p unsent → ⊥) (λ breaks. breaks) (λ breaks. breaks) phase

  -- nor does a server keep a request whose session ended
  pub none_kept_at_end : (phase : Phase A) (outcome : Outcome) → outcome_in phase ≡ Some outcome → kept_in phase ≡ 0
  none_kept_at_end Between outcome h = refl
  none_kept_at_end Within outcome h = refl
  none_kept_at_end (Advertising line) outcome h = refl
  none_kept_at_end (Answering answer offset) outcome h = absurd (cc)
  none_kept_at_end (Refusing fault) outcome h = refl
  none_kept_at_end (Ended outcome) _ h = refl

  -- nor does it store one
  pub none_stored_at_end : (phase : Phase A) (outcome : Outcome) → outcome_in phase ≡ Some outcome → stored_in phase ≡ 0
  none_stored_at_end Between outcome h = refl
  none_stored_at_end Within outcome h = refl
  none_stored_at_end (Advertising line) outcome h = refl
  none_stored_at_end (Answering answer offset) outcome h = absurd (cc)
  none_stored_at_end (Refusing fault) outcome h = refl
  none_stored_at_end (Ended outcome) _ h = refl

  -- after a packet no more is stored of what is answered than is kept of it
  covered_after : (offset : ℕ) (brought : ReadGot A) → IsCovered brought → stored_in (phase_after offset brought) ≤ kept_in (phase_after offset brought)
  covered_after offset More h = omega arith
  covered_after offset (Whole request) h = omega (arith, h, kept_to_answer request, stored_to_answer request)
  covered_after offset Stop h = omega arith
  covered_after offset (RefusedPacket fault) h =
      omega (arith, none_stored_at_end (refused_by fault.kind fault) (Refused fault) (refused_outcome_by A fault.kind fault))

  -- after a packet the request is kept by the reader of requests, or by what answers it
  kept_behind : (offset : ℕ) (brought : ReadGot A) (requests : RequestReader A) → IsWithin brought requests
      → kept_so_far requests + kept_in (phase_after offset brought) ≤ limit_in requests
  kept_behind offset More requests h = omega (arith, h)
  kept_behind offset (Whole request) requests h = omega (arith, h.1, h.2, kept_to_answer request)
  kept_behind offset Stop requests h = omega (arith, h)
  kept_behind offset (RefusedPacket fault) requests h =
      omega (arith, h, none_kept_at_end (refused_by fault.kind fault) (Refused fault) (refused_outcome_by A fault.kind fault))

-- in each phase some packets make an end
pub some_unsent : {A : Type 0} (offer : Offer) (repo : Repository) (phase : Phase A) → (unsent : List Pkt) × AreUnsent offer repo phase unsent
some_unsent offer repo (Advertising line) = (advertisement_from offer line, refl)
some_unsent offer repo (Answering (References request place) offset) = (references_from request.asked repo place, refl)
some_unsent offer repo (Answering (Fetching request place) offset) = some_fetch repo request.asked place
some_unsent offer repo (Answering (Sizes request place) offset) = (sizes_from request.asked repo place, refl)
some_unsent offer repo (Refusing fault) = (error_packet fault ∷ [], refl)
some_unsent offer repo Between = ([], refl)
some_unsent offer repo Within = ([], refl)
some_unsent offer repo (Ended outcome) = ([], refl)

one_more : {X : Type 0} (xs : List X) (x : X) → xs ++ x ∷ [] ≢ []
one_more [] x e = cc
one_more (y ∷ ys) x e = cc

-- no packet of a request is refused by a kind of fault that is neither a packet's nor a repository's
not_announced : {A : Type 0} (kind : Kind) (strange : NotOfPackets kind) → NotOfRepository kind → (offset : ℕ) (packets : List Given) (brought : ReadGot A)
    (requests : RequestReader A) (repo : Repository) → IsBrought (barred repo) packets brought requests
    → (fault : Fault) → outcome_in (phase_after offset brought) ≡ Some (Refused fault) → fault.kind ≡ kind → ⊥
not_announced kind strange other offset packets More requests repo h fault ended is = cc
not_announced kind strange other offset packets (Whole request) requests repo h fault ended is = cc
not_announced kind strange other offset packets Stop requests repo h fault ended is = cc
not_announced {A = A} kind strange other offset packets (RefusedPacket f) requests repo h fault ended is =
    let same : Some (Refused f) ≡ Some (Refused fault) = sym (refused_outcome_by A f.kind f) ∙ ended in
    let one : f ≡ fault = cc in
    not_announced_for (offer_of requests) (limit_in requests) repo packets f kind strange other h (ap (λ (x : Fault). x.kind) one ∙ is)

-- a repository refuses no argument by these names
pack_source_other : NotOfRepository PackSource
pack_source_other = record { not_ours = λ e. cc; not_unknown = λ e. cc }

too_long_other : NotOfRepository StreamTooLong
too_long_other = record { not_ours = λ e. cc; not_unknown = λ e. cc }

-- bytes are not refused for the source of a pack
no_pack_in_bytes : (p : ℕ) (rest : List ℕ) (end : ℕ) (kind : Kind) (offset : ℕ) → StopsBy p rest end kind offset → kind ≢ PackSource
no_pack_in_bytes p rest end kind offset h is =
    let stops : StopsBy p rest end PackSource offset = subst (λ (k : Kind). StopsBy p rest end k offset) is h in
    stops.0

-- what a server without an outcome represents
pub goes_on : {R A : Type 0} (state : R → RepoState) (server : Server R A) (s : Setting) (used : List ℕ) (over : Bool) (given : List ℕ)
    → outcome_of server ≡ None → Running state s used over given server → (over ≡ false) × Serves s used given server
goes_on state server s used over given none r = subst (λ (o : Option Outcome). StandsBy o s used over given server) none r.stands

module _ {R A : Type 0} (state : R → RepoState) (old new : Server R A) (u : List ℕ) where
  -- what a server that waits for bytes represents
  stands_of : (s : Setting) (so_far : List ℕ) (over : Bool) (before : List ℕ)
      → wants_input old ≡ true → Running state s so_far over before old → (over ≡ false) × Serves s so_far before old
  stands_of s so_far over before wants r = goes_on state old s so_far over before (no_outcome old.phase wants) r

  pub serves_of : (s : Setting) (so_far : List ℕ) (over : Bool) (before : List ℕ)
      → wants_input old ≡ true → Running state s so_far over before old → Serves s so_far before old
  serves_of s so_far over before wants r = (stands_of s so_far over before wants r).1

  pub all_sent_of : (s : Setting) (so_far before : List ℕ) → wants_input old ≡ true → (h : Serves s so_far before old) → IsSent s h.asked h.sent []
  all_sent_of s so_far before wants h =
      h.is_sent [] (nothing_unsent old.offer s.repo old.phase wants)

  -- no packet came of the bytes
  pub goes_open : wants_input old ≡ true
      → ReadsFor state old u [] new → new.requests ≡ old.requests → new.phase ≡ old.phase → fault_of new.reader ≡ None → Goes state u [] old new
  goes_open wants reads same_requests same_phase sound s so_far over before r =
      let (not_over, h) = stands_of s so_far over before wants r in
      let (rest, stream) = reads.reads 0 so_far h.packets h.rest h.reads in
      record {
        offer = reads.offer ∙ r.offer;
        reads_for = ap offer_of same_requests ∙ r.reads_for;
        limit = ap limit_in same_requests ∙ r.limit;
        repo = ap (λ (x : RepoState). x.answers) reads.repo ∙ r.repo;
        failures = failures_as (outcome_of old) (outcome_of new) s.failures _ _ (ap outcome_in same_phase)
            (ap (λ (x : RepoState). x.failures) reads.repo) r.failures;
        within = omega (arith, r.within, ap kept_so_far same_requests, ap kept_in same_phase);
        covered = omega (arith, r.covered, ap stored_in same_phase, ap kept_in same_phase);
        fits = stream.fits;
        stands = subst (λ (o : Option Outcome). StandsBy o s (so_far ++ u) over (before ++ []) new)
            (sym (ap outcome_in same_phase ∙ no_outcome old.phase wants)) (
              not_over,
              record {
                asked = h.asked;
                packets = h.packets;
                left = h.left;
                rest = rest;
                sent = h.sent;
                reads = subst (λ (l : List Given). Reads new.reader 0 (so_far ++ u) l rest) (append-nil h.packets) stream;
                no_fault = sound;
                requests = h.requests;
                takes = subst (Takes h.left) (sym same_requests) h.takes;
                begins = h.begins;
                left_is = subst (λ (p : Phase A). LeftIn p h.left) (sym same_phase) h.left_is;
                flush_at = subst (λ (p : Phase A). FlushIsAt p h.packets) (sym same_phase) h.flush_at;
                is_sent = λ unsent has_unsent. subst (λ (l : List Pkt). IsSent s h.asked h.sent l)
                    (sym (nothing_left_unsent new.offer s.repo new.phase unsent (ap reads_in same_phase ∙ wants) has_unsent))
                    (all_sent_of s so_far before wants h);
                breaks = λ unsent breaks. absurd (none_breaks s.repo new.phase unsent (ap reads_in same_phase ∙ wants) breaks);
                given_is = append-nil before ∙ h.given_is;
                fit = h.fit;
              },
            );
      }

  -- with this packet the session ends, and no packet of its end was sent yet
  ended_at : (s : Setting) (so_far : List ℕ) (over : Bool) (before : List ℕ) (left : List Given) (packets : List Given) (rest : List ℕ) (outcome : Outcome)
      → wants_input old ≡ true → (h : Serves s so_far before old)
      → Reads new.reader 0 (so_far ++ u) packets rest → AreRequests (IsRequest s) packets h.asked left
      → EndsBy s over left rest (length (so_far ++ u)) outcome → (unsent : List Pkt) → IsTail s left outcome unsent
      → IsEnding s (so_far ++ u) over (before ++ []) outcome unsent
  ended_at s so_far over before left packets rest outcome wants h stream requests ends unsent tail =
      let all = all_sent s h.asked h.sent (all_sent_of s so_far before wants h) in
      record {
        asked = h.asked;
        left = left;
        rest = rest;
        answers = all.answers;
        sent = [];
        stream = record { packets = packets; splits = stream.splits; requests = requests };
        ends = ends;
        answered = all.answered;
        parts = tail;
        given_is = append-nil before ∙ h.given_is ∙ ap spelled (all.sent_is ∙ sym (append-nil _));
        fit = subst AllFit (all.sent_is ∙ sym (append-nil _)) h.fit;
      }

  -- after a whole packet there is no rest
  no_rest : (bytes : List ℕ) (packets : List Given) (rest : List ℕ)
      → fault_of new.reader ≡ None → is_open new.reader ≡ false → Reads new.reader 0 bytes packets rest → rest ≡ []
  no_rest bytes packets rest sound shut stream =
      none_between new.reader rest (sound_rest new.reader 0 bytes packets rest sound stream).0 shut

  -- what is pending, in the phase that was reached
  pub has_unsent_at : (s : Setting) (phase : Phase A) (unsent : List Pkt) → new.phase ≡ phase → AreUnsent new.offer s.repo new.phase unsent
      → AreUnsent new.offer s.repo phase unsent
  has_unsent_at s phase unsent is has_unsent = subst (λ (p : Phase A). AreUnsent new.offer s.repo p unsent) is has_unsent

  -- with one packet more, the packets are the same requests and more is left
  with_packet : (s : Setting) (so_far before : List ℕ) (h : Serves s so_far before old) (g : Given)
      → AreRequests (IsRequest s) (h.packets ++ g ∷ []) h.asked (h.left ++ g ∷ [])
  with_packet s so_far before h g = requests_more (IsRequest s) h.packets (g ∷ []) h.asked h.left h.requests

  -- where the session goes on after a packet
  packet_serves : (s : Setting) (so_far : List ℕ) (before : List ℕ) (asked : List Asked) (packets left : List Given) (rest : List ℕ) (sent : List Pkt)
      (phase : Phase A)
      → Reads new.reader 0 (so_far ++ u) packets rest → fault_of new.reader ≡ None
      → AreRequests (IsRequest s) packets asked left → Takes left new.requests → Begins s left → new.phase ≡ phase
      → LeftIn phase left → FlushIsAt phase packets
      → ((unsent : List Pkt) → AreUnsent new.offer s.repo phase unsent → IsSent s asked sent unsent)
      → ((unsent : List Pkt) → MayBreak s.repo phase unsent → IsAnswering broken s asked sent unsent) → before ≡ spelled sent → AllFit sent
      → Serves s (so_far ++ u) (before ++ []) new
  packet_serves s so_far before asked packets left rest sent phase stream sound requests takes begins phase_is left_is flush_at is_sent breaks given fit =
      record {
        asked = asked;
        packets = packets;
        left = left;
        rest = rest;
        sent = sent;
        reads = stream;
        no_fault = sound;
        requests = requests;
        takes = takes;
        begins = begins;
        left_is = subst (λ (p : Phase A). LeftIn p left) (sym phase_is) left_is;
        flush_at = subst (λ (p : Phase A). FlushIsAt p packets) (sym phase_is) flush_at;
        is_sent = λ unsent has_unsent. is_sent unsent (subst (λ (p : Phase A). AreUnsent new.offer s.repo p unsent) phase_is has_unsent);
        breaks = λ unsent may. breaks unsent (subst (λ (p : Phase A). MayBreak s.repo p unsent) phase_is may);
        given_is = append-nil before ∙ given;
        fit = fit;
      }

  -- what a server represents after a packet, by what the packet brought
  packet_stands : (s : Setting) (so_far : List ℕ) (over : Bool) (before : List ℕ) (g : Given) (brought : ReadGot A)
      → wants_input old ≡ true → over ≡ false → (h : Serves s so_far before old) → (rest : List ℕ) → Reads new.reader 0 (so_far ++ u) (h.packets ++ g ∷ []) rest
      → fault_of new.reader ≡ None → is_open new.reader ≡ false → offer_of new.requests ≡ s.offer → limit_in new.requests ≡ s.limit
      → Brings (barred s.repo) old.requests g brought new.requests → new.phase ≡ phase_after g.offset brought
      → StandsBy (outcome_in (phase_after g.offset brought)) s (so_far ++ u) over (before ++ []) new
  packet_stands s so_far over before g More wants not_over h rest stream sound shut offer limit brings phase_is =
      let (takes, lines, unbarred) = brings.brings h.left h.takes in
      let begun = begins_more s h.left g new.requests offer limit h.begins lines unbarred in (
        not_over,
        packet_serves s so_far before h.asked (h.packets ++ g ∷ []) (h.left ++ g ∷ []) rest h.sent Within stream sound
            (with_packet s so_far before h g) takes begun phase_is (one_more h.left g) tt
            (λ unsent has_unsent. subst (λ (l : List Pkt). IsSent s h.asked h.sent l) (sym has_unsent) (all_sent_of s so_far before wants h))
            (λ unsent breaks. absurd breaks) h.given_is h.fit,
      )
  packet_stands s so_far over before g (Whole request) wants not_over h rest stream sound shut offer limit brings phase_is =
      let (takes, asks, of_format) = brings.brings h.left h.takes in
      let asks_here : Asks s.offer s.limit (h.left ++ g ∷ []) (asked_of request) (kept_of request) =
      subst (λ (n : ℕ). Asks s.offer n (h.left ++ g ∷ []) (asked_of request) (kept_of request)) limit
      (subst (λ (o : Offer). Asks o (limit_in new.requests) (h.left ++ g ∷ []) (asked_of request) (kept_of request)) offer asks) in
      let had = request_had s.offer s.limit s.repo h.left g h.begins.lines (asked_of request) (kept_of request) h.begins.taken h.begins.admitted asks_here in (
        not_over,
        packet_serves s so_far before (h.asked ++ asked_of request ∷ [])
            (h.packets ++ g ∷ []) [] rest h.sent (Answering (answer_to request) g.offset) stream sound
            (one_more_request (IsRequest s) (h.packets ++ g ∷ []) h.asked (h.left ++ g ∷ []) (asked_of request) (with_packet s so_far before h g)
            (kept_of request, asks_here, had)) takes (nothing_begins s) phase_is refl (h.packets, g, refl, refl)
            (λ unsent has_unsent. inr (one_more_asked whole s h.asked h.sent unsent (asked_of request) (all_sent_of s so_far before wants h)
            (whole_answer whole s.repo request unsent has_unsent)))
            (λ unsent breaks. one_more_asked broken s h.asked h.sent unsent (asked_of request) (all_sent_of s so_far before wants h)
            (whole_answer broken s.repo request unsent breaks)) h.given_is h.fit,
      )
  packet_stands s so_far over before g Stop wants not_over h rest stream sound shut offer limit brings phase_is =
      λ unsent has_unsent. ended_at s so_far over before (h.left ++ g ∷ []) (h.packets ++ g ∷ []) rest Flush wants h stream
      (with_packet s so_far before h g)
      ((brings.brings h.left h.takes).1, no_rest _ _ rest sound shut stream) unsent (sym (has_unsent_at s (Ended Flush) unsent phase_is has_unsent))
  packet_stands s so_far over before g (RefusedPacket fault) wants not_over h rest stream sound shut offer limit brings phase_is =
      let announced : IsAnnouncedFor s.offer s.limit (barred s.repo) (h.left ++ g ∷ []) fault =
      subst (λ (n : ℕ). IsAnnouncedFor s.offer n (barred s.repo) (h.left ++ g ∷ []) fault) limit
      (subst (λ (o : Offer). IsAnnouncedFor o (limit_in new.requests) (barred s.repo) (h.left ++ g ∷ []) fault) offer (brings.brings h.left h.takes)) in
      subst (λ (o : Option Outcome). StandsBy o s (so_far ++ u) over (before ++ []) new) (sym (refused_outcome_by A fault.kind fault))
      (λ unsent has_unsent. ended_at s so_far over before (h.left ++ g ∷ []) (h.packets ++ g ∷ []) rest (Refused fault) wants h stream
      (with_packet s so_far before h g)
      (inl (inl (record {
        front = h.left;
        last = g;
        whole = refl;
        begins = h.begins;
        announced = announced;
        no_rest = no_rest _ _ rest sound shut stream;
      }))) unsent
      (refused_unsent_by A new.offer s (h.left ++ g ∷ []) fault.kind fault unsent
      (not_announced_for s.offer s.limit s.repo (h.left ++ g ∷ []) fault PackSource tt pack_source_other announced)
      (has_unsent_at s (refused_by fault.kind fault) unsent phase_is has_unsent)))

  -- a packet came of the bytes
  pub goes_packet : (g : Given) (brought : ReadGot A) → IsCovered brought → wants_input old ≡ true → ReadsFor state old u (g ∷ []) new
      → Brings (barred (state old.repo).answers) old.requests g brought new.requests → new.phase ≡ phase_after g.offset brought
      → fault_of new.reader ≡ None → is_open new.reader ≡ false → Goes state u [] old new
  goes_packet g brought covered wants reads brings phase_is sound shut s so_far over before r =
      let (not_over, h) = stands_of s so_far over before wants r in
      let (rest, stream) = reads.reads 0 so_far h.packets h.rest h.reads in
      let offer = brings.offer ∙ r.reads_for in
      let limit = brings.limit ∙ r.limit in
      let open_ended = no_outcome old.phase wants in
      let brings_here = subst (λ (p : Repository). Brings (barred p) old.requests g brought new.requests) r.repo brings in
      record {
        offer = reads.offer ∙ r.offer;
        reads_for = offer;
        limit = limit;
        repo = ap (λ (x : RepoState). x.answers) reads.repo ∙ r.repo;
        failures = failures_end (outcome_of old) (outcome_of new) s.failures _ _ open_ended (ap (λ (x : RepoState). x.failures) reads.repo)
            (λ (fault, is, name). not_announced PackSource tt pack_source_other g.offset (h.left ++ g ∷ []) brought new.requests (state old.repo).answers
            (brings.brings h.left h.takes) fault (sym (ap outcome_in phase_is) ∙ is) name) r.failures;
        within = omega (arith, kept_behind g.offset brought new.requests brings.within, limit, ap kept_in phase_is);
        covered = omega (arith, covered_after g.offset brought covered, ap stored_in phase_is, ap kept_in phase_is);
        fits = stream.fits;
        stands = subst (λ (o : Option Outcome). StandsBy o s (so_far ++ u) over (before ++ []) new) (sym (ap outcome_in phase_is))
            (packet_stands s so_far over before g brought wants not_over h rest stream sound shut offer limit brings_here phase_is);
      }

  -- the session ends with this fault, which was not sent yet
  ends_refused : (s : Setting) (so_far : List ℕ) (over : Bool) (before : List ℕ) (left packets : List Given) (rest : List ℕ) (fault : Fault)
      → wants_input old ≡ true → (h : Serves s so_far before old)
      → Reads new.reader 0 (so_far ++ u) packets rest → AreRequests (IsRequest s) packets h.asked left
      → IsRefused s over left rest (length (so_far ++ u)) fault → fault.kind ≢ PackSource → new.phase ≡ refused_by fault.kind fault
      → StandsBy (outcome_of new) s (so_far ++ u) over (before ++ []) new
  ends_refused s so_far over before left packets rest fault wants h stream requests refused other phase_is =
      subst (λ (o : Option Outcome). StandsBy o s (so_far ++ u) over (before ++ []) new) (sym (ap outcome_in phase_is ∙ refused_outcome_by A fault.kind fault))
      (λ unsent has_unsent. ended_at s so_far over before left packets rest (Refused fault) wants h stream requests refused unsent
      (refused_unsent_by A new.offer s left fault.kind fault unsent other (has_unsent_at s (refused_by fault.kind fault) unsent phase_is has_unsent)))

  -- the bytes were refused
  pub goes_refused : (fault : Fault) → wants_input old ≡ true → ReadsFor state old u [] new
      → new.requests ≡ old.requests
      → fault_of new.reader ≡ Some fault → (fault_of old.reader ≡ None → fault.kind ≢ Truncated)
      → new.phase ≡ refused_by fault.kind fault → Goes state u [] old new
  goes_refused fault wants reads same_requests announced not_the_end phase_is s so_far over before r =
      let (not_over, h) = stands_of s so_far over before wants r in
      let (rest, later) = reads.reads 0 so_far h.packets h.rest h.reads in
      let stream = subst (λ (l : List Given). Reads new.reader 0 (so_far ++ u) l rest) (append-nil h.packets) later in
      let stops = stopped_by new.reader (so_far ++ u) h.packets rest fault announced stream in
      let other = no_pack_in_bytes _ rest _ fault.kind fault.offset stops in
      let ended = ap outcome_in phase_is ∙ refused_outcome_by A fault.kind fault in
      record {
        offer = reads.offer ∙ r.offer;
        reads_for = ap offer_of same_requests ∙ r.reads_for;
        limit = ap limit_in same_requests ∙ r.limit;
        repo = ap (λ (x : RepoState). x.answers) reads.repo ∙ r.repo;
        failures = failures_end (outcome_of old) (outcome_of new) s.failures _ _ (no_outcome old.phase wants)
            (ap (λ (x : RepoState). x.failures) reads.repo)
            (λ lost. other_lost fault other (subst IsPackLost ended lost)) r.failures;
        within = omega (
          arith,
          r.within,
          ap kept_so_far same_requests,
          none_kept_at_end new.phase (Refused fault) ended,
        );
        covered = omega (arith, none_stored_at_end new.phase (Refused fault) ended);
        fits = later.fits;
        stands = ends_refused s so_far over before h.left h.packets rest fault wants h stream h.requests
            (inl (inr (inl (record {
              goes_on = not_over;
              begins = h.begins;
              stops = stops;
              not_the_end = not_the_end h.no_fault;
            })))) other phase_is;
      }

module _ {R A : Type 0} (state : R → RepoState) (old : Server R A) (used : ℕ) (chunk : List ℕ) where
  -- the session went on
  pub open_in_time : StopsInTime state old used chunk (outcome_in old.phase)
  open_in_time s so_far over before r wants fault ended too_long =
      let none : outcome_in old.phase ≡ None = no_outcome old.phase wants in
      absurd (cc)

  -- a packet was judged
  pub packet_in_time : (g : Given) (brought : ReadGot A) (requests : RequestReader A) (phase : Phase A)
      → Brings (barred (state old.repo).answers) old.requests g brought requests → phase ≡ phase_after g.offset brought
      → StopsInTime state old used chunk (outcome_in phase)
  packet_in_time g brought requests phase brings phase_is s so_far over before r wants fault ended too_long =
      let h = serves_of state old old [] s so_far over before wants r in
      absurd (not_announced StreamTooLong tt too_long_other g.offset (h.left ++ g ∷ []) brought requests (state old.repo).answers (brings.brings h.left h.takes)
      fault (sym (ap outcome_in phase_is) ∙ ended) too_long)

  -- the bytes were refused
  pub fault_in_time : (fault : Fault) (phase : Phase A) → phase ≡ refused_by fault.kind fault → (fault_of old.reader ≡ None → ShownByFeed fault used chunk)
      → StopsInTime state old used chunk (outcome_in phase)
  fault_in_time fault phase phase_is shown s so_far over before r wants other ended too_long =
      let h = serves_of state old old [] s so_far over before wants r in
      let same : Some (Refused fault) ≡ Some (Refused other) = sym (refused_outcome_by A fault.kind fault) ∙ sym (ap outcome_in phase_is) ∙ ended in
      let one : fault ≡ other = cc in
      (shown h.no_fault).one_more (ap (λ (f : Fault). f.kind) one ∙ too_long)

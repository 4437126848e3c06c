-- A server whose answer breaks off, since the source of the pack failed.
use Rattle.std.proofs.Common.{arith, ◌≡◌, ℕ, Bool, false, List, [], ◌∷◌, ◌++◌, Option, None, ◌*◌, ap}
use Rattle.std.proofs.Common.{refl, sym, ap, ◌∙◌, append_assoc, append-nil, subst, inr}
use Rattle.git_pkt.specs.Packets.{Pkt, spelling_of}
use Rattle.git_pkt.specs.Splits.{Given}
use Rattle.git_pkt.specs.Machine.PacketReader.{is_open}
use Rattle.git_pkt.specs.declared.fault.Kind.TheVariants.{PackSource}
use Rattle.git_pkt.proofs.KnownRest.{none_between, sound_rest}
use Rattle.git_msg.specs.Asked.{Asked}
use Rattle.git_msg.specs.Machine.RequestReader.{offer_of, limit_in, kept_so_far}
use Rattle.git_msg.specs.WholeRequests.{AreRequests}
use Rattle.git_msg.proofs.WholeRequests.{last_packet, last_request}
use Rattle.git_pkt.proofs.OpenLengths.{shut_counts_none}
use Rattle.git_server.specs.Repository.{Repository, RepoState}
use Rattle.git_server.specs.Packs.{broken}
use Rattle.git_server.specs.Answers.{AllFit, IsAnswerAs, spelled}
use Rattle.git_server.specs.Sessions.{Setting, IsAnswering, IsEnding, IsLastAt, IsRequest, advertised}
use Rattle.git_server.specs.Machine.AnsweredRequest.{IsAnswerFrom, ReadsPack}
use Rattle.git_server.specs.Machine.Phases.{FlushIsAt, LeftIn, MayBreak, AreUnsent, kept_in, lost_pack, most_unsent, outcome_in, has_unsent_in, stored_in}
use Rattle.git_server.specs.Machine.WrittenPackets.{Writes}
use Rattle.git_server.specs.Machine.LatePacks.{HasNoPackUnsentIn}
use Rattle.git_server.specs.Machine.Server.{IsPackLost, Serves, StandsBy, outcome_of}
use Rattle.git_server.specs.Machine.ServerCalls.{Gives, AreUnsentNow}
use Rattle.git_server.specs.declared.answer.Answer.{Answer}
use Rattle.git_server.specs.declared.answer.Answered.TheVariants.{Broken}
use Rattle.git_server.specs.declared.outcome.Outcome.{Outcome}
use Rattle.git_server.specs.declared.server.Phase.{Phase}
use Rattle.git_server.specs.declared.server.Phase.TheVariants.{Answering, Ended}
use Rattle.git_server.specs.declared.server.Server.{Server}
use Rattle.git_server.proofs.Going.{goes_on}
use Rattle.git_server.proofs.LatePacks.{unbroken}
use Rattle.git_server.proofs.Outcomes.{lost_by_pull, none_lost}
use Rattle.git_server.proofs.UnsentPackets.{some_left}
use Rattle.git_server.proofs.Sent.{fit_more, spelled_one}

module _ {R A : Type 0} (state : R → RepoState) (old new : Server R A) (packet : Pkt) (answer : Answer A) (offset : ℕ)
    (writes : Writes old.reader packet new.reader) (offer : new.offer ≡ old.offer) (requests : new.requests ≡ old.requests)
    (was : old.phase ≡ Answering answer offset) (is : new.phase ≡ Ended (lost_pack offset))
    (reads : ReadsPack Broken (state old.repo) (state new.repo))
    (breaks : IsAnswerFrom broken (state old.repo).answers answer (packet ∷ [])) where
  may_break : MayBreak (state old.repo).answers old.phase (packet ∷ [])
  may_break = subst (λ (p : Phase A). MayBreak (state old.repo).answers p (packet ∷ [])) (sym was) breaks

  went_on : outcome_of old ≡ None
  went_on = ap outcome_in was

  lost : IsPackLost (outcome_of new)
  lost = (record { kind = PackSource; offset = offset }, ap outcome_in is, refl)

  module _ (s : Setting) (used : List ℕ) (over : Bool) (before : List ℕ) (repo : (state old.repo).answers ≡ s.repo) (not_over : over ≡ false)
      (h : Serves s used before old) where
    -- what was sent is the beginning of an answer that broke off
    answering : IsAnswering broken s h.asked h.sent (packet ∷ [])
    answering = h.breaks (packet ∷ []) (subst (λ (r : Repository). MayBreak r old.phase (packet ∷ [])) repo may_break)

    none_left : h.left ≡ []
    none_left = subst (λ (p : Phase A). LeftIn p h.left) was h.left_is

    last_at : IsLastAt offset h.packets
    last_at = subst (λ (p : Phase A). FlushIsAt p h.packets) was h.flush_at

    no_rest : h.rest ≡ []
    no_rest =
        let shut : is_open old.reader ≡ false = old.between (ap has_unsent_in was) in
        none_between old.reader h.rest (sound_rest old.reader 0 used h.packets h.rest h.no_fault h.reads).0 shut

    with_one : h.sent ++ packet ∷ [] ≡ advertised s ++ answering.answers ++ (answering.front ++ packet ∷ [])
    with_one = ap (λ (l : List Pkt). l ++ packet ∷ []) answering.sent_is ∙ append_assoc (advertised s ++ answering.answers) answering.front (packet ∷ [])

    given_now : before ++ spelling_of packet ≡ spelled (h.sent ++ packet ∷ [])
    given_now = ap (λ (l : List ℕ). l ++ spelling_of packet) h.given_is ∙ sym (spelled_one h.sent packet)

    ends_broken : (unsent : List Pkt) → unsent ≡ [] → IsEnding s used over (before ++ spelling_of packet) (lost_pack offset) unsent
    ends_broken unsent nothing =
        let a = answering in
        let asked = subst (λ (qs : List Asked). AreRequests (IsRequest s) h.packets qs h.left) a.whole h.requests in
        let taken = last_request (IsRequest s) h.packets a.earlier a.last
        (subst (λ (l : List Given). AreRequests (IsRequest s) h.packets (a.earlier ++ a.last ∷ []) l) none_left asked) in
        let (front, last, packets_are, at) = last_at in
        let asks = taken.is_one.1 in
        let own : asks.last ≡ last =
        last_packet (IsRequest s) h.packets a.earlier a.last taken front asks.front last asks.last packets_are asks.whole in
        let all : a.front ++ packet ∷ [] ≡ (a.front ++ packet ∷ []) ++ unsent =
        sym (append-nil (a.front ++ packet ∷ [])) ∙ ap (λ (l : List Pkt). (a.front ++ packet ∷ []) ++ l) (sym nothing) in
        record {
          asked = a.earlier;
          left = taken.left;
          rest = h.rest;
          answers = a.answers;
          sent = a.front ++ packet ∷ [];
          stream = record { packets = h.packets; splits = h.reads.splits; requests = taken.earlier };
          ends = inr (record {
            goes_on = not_over;
            asked = a.last;
            is_request = taken.is_one;
            name = refl;
            at = (asks.front, asks.last, asks.whole, ap (λ (g : Given). g.offset) own ∙ at);
            no_rest = no_rest;
          });
          answered = a.answered;
          parts = record { asked = a.last; is_request = taken.is_one; breaks = subst (IsAnswerAs broken s.repo a.last) all a.answer };
          given_is = given_now ∙ ap spelled with_one;
          fit = subst AllFit with_one (fit_more h.sent packet h.fit writes.fits);
        }

  nothing_left_unsent : AreUnsentNow state new []
  nothing_left_unsent = subst (λ (p : Phase A). AreUnsent new.offer (state new.repo).answers p []) (sym is) refl

  -- the packet that reports it is sent, and the session has ended
  pub gives_broken : Gives state old new
  gives_broken =
      record {
        packet = packet;
        unsent = inr (record { went_on = went_on; breaks = may_break; lost = lost; nothing = nothing_left_unsent });
        less = omega (
          arith,
          ap (most_unsent new.offer (state new.repo).answers) is,
          ap (most_unsent old.offer (state old.repo).answers) was,
          some_left (state old.repo).answers answer,
        );
        held = writes.held;
        fits = writes.fits;
        credit = ap (λ (n : ℕ). 56 * n) (shut_counts_none new.reader writes.between);
        outcome = lost_by_pull (outcome_of old) (outcome_of new) went_on lost;
        unread = λ none. absurd (unbroken (state old.repo).answers answer (packet ∷ [])
            (subst (λ (p : Phase A). HasNoPackUnsentIn (state old.repo).answers p) was none) breaks);
        goes = λ s so_far over before r.
            let (not_over, h) = goes_on state old s so_far over before went_on r in
            let unfailed : (state old.repo).failures ≡ s.failures = r.failures.same (λ l. none_lost (subst IsPackLost went_on l)) in
            record {
              offer = offer ∙ r.offer;
              reads_for = ap offer_of requests ∙ r.reads_for;
              limit = ap limit_in requests ∙ r.limit;
              repo = reads.answers ∙ r.repo;
              failures = record { risen = λ l. omega (arith, unfailed, reads.failures); same = λ not_lost. absurd (not_lost lost) };
              within = omega (arith, r.within, ap kept_so_far requests, ap kept_in is);
              covered = omega (arith, ap stored_in is);
              fits = writes.holds;
              stands = subst (λ (o : Option Outcome). StandsBy o s (so_far ++ []) over (before ++ spelling_of packet) new) (sym (ap outcome_in is))
                  (λ unsent has_unsent. subst (λ (l : List ℕ). IsEnding s l over (before ++ spelling_of packet) (lost_pack offset) unsent)
                  (sym (append-nil so_far))
                  (ends_broken s so_far over before r.repo not_over h unsent
                  (subst (λ (p : Phase A). AreUnsent new.offer s.repo p unsent) is has_unsent)));
            };
      }

-- A server that gives a packet.
use Rattle.std.proofs.Common.{arith, ◌≡◌, ◌≤◌, ◌<◌, ℕ, Bool, List, [], ◌∷◌, ◌++◌, Option, Some, None, sym, ap, ◌∙◌, append_assoc, append-nil, subst, inl, ◌*◌}
use Rattle.git_pkt.specs.Packets.{Pkt, spelling_of}
use Rattle.git_pkt.specs.Splits.{Given}
use Rattle.git_pkt.proofs.OpenLengths.{shut_counts_none}
use Rattle.git_server.specs.Repository.{Repository, RepoState}
use Rattle.git_server.specs.Answers.{AllFit, spelled}
use Rattle.git_server.specs.Sessions.{Setting, IsTail, advertised}
use Rattle.git_server.specs.Packs.{broken}
use Rattle.git_server.specs.Machine.Phases.{FlushIsAt, LeftIn, MayBreak, kept_in, most_unsent, AreUnsent, stored_in}
use Rattle.git_server.specs.Machine.WrittenPackets.{Writes}
use Rattle.git_server.specs.Machine.Server.{StandsBy, outcome_of}
use Rattle.git_server.specs.Machine.LatePacks.{HasNoPackUnsentIn, state_with}
use Rattle.git_server.specs.Machine.ServerCalls.{ComesBefore, Gives, GivesUnread, Goes, Keeps, HasNoPackUnsent, most_left}
use Rattle.git_msg.specs.Machine.RequestReader.{Takes, offer_of, limit_in, kept_so_far}
use Rattle.git_server.specs.declared.outcome.Outcome.{Outcome}
use Rattle.git_server.specs.declared.server.Server.{Server}
use Rattle.git_server.proofs.LatePacks.{breaks_any, breaks_known, keeps_any, any_unsent, has_unsent_known}
use Rattle.git_server.proofs.Outcomes.{failures_as, stays_as}
use Rattle.git_server.proofs.Sent.{answering_one, fit_more, sent_one, spelled_one}

module _ {R A : Type 0} (state : R → RepoState) (old new : Server R A) (packet : Pkt)
    (writes : Writes old.reader packet new.reader) (keeps : Keeps state old new)
    (unsent : (later : List Pkt) → AreUnsent new.offer (state old.repo).answers new.phase later
    → AreUnsent old.offer (state old.repo).answers old.phase (packet ∷ later))
    (breaks : (later : List Pkt) → MayBreak (state old.repo).answers new.phase later → MayBreak (state old.repo).answers old.phase (packet ∷ later))
    (same : outcome_of new ≡ outcome_of old)
    (left_stays : (left : List Given) → LeftIn old.phase left → LeftIn new.phase left)
    (flush_stays : (packets : List Given) → FlushIsAt old.phase packets → FlushIsAt new.phase packets) (no_more : kept_in new.phase ≤ kept_in old.phase)
    (covered : stored_in old.phase ≤ kept_in old.phase → stored_in new.phase ≤ kept_in new.phase) where
  -- what is pending, as the session's repository has it
  unsent_here : (s : Setting) (later : List Pkt) → (state old.repo).answers ≡ s.repo → AreUnsent new.offer s.repo new.phase later
      → AreUnsent old.offer s.repo old.phase (packet ∷ later)
  unsent_here s later repo has_unsent =
      subst (λ (r : Repository). AreUnsent old.offer r old.phase (packet ∷ later)) repo
      (unsent later (subst (λ (r : Repository). AreUnsent new.offer r new.phase later) (sym repo) has_unsent))

  breaks_here : (s : Setting) (later : List Pkt) → (state old.repo).answers ≡ s.repo → MayBreak s.repo new.phase later
      → MayBreak s.repo old.phase (packet ∷ later)
  breaks_here s later repo may =
      subst (λ (r : Repository). MayBreak r old.phase (packet ∷ later)) repo
      (breaks later (subst (λ (r : Repository). MayBreak r new.phase later) (sym repo) may))

  given_on : (before : List ℕ) (sent : List Pkt) → before ≡ spelled sent → before ++ spelling_of packet ≡ spelled (sent ++ packet ∷ [])
  given_on before sent is = ap (λ (l : List ℕ). l ++ spelling_of packet) is ∙ sym (spelled_one sent packet)

  gives_in : (o : Option Outcome) (s : Setting) (used : List ℕ) (over : Bool) (before : List ℕ)
      → (state old.repo).answers ≡ s.repo → StandsBy o s used over before old → StandsBy o s used over (before ++ spelling_of packet) new
  gives_in None s used over before repo (not_over, h) = (
    not_over,
    record {
      asked = h.asked;
      packets = h.packets;
      left = h.left;
      rest = h.rest;
      sent = h.sent ++ packet ∷ [];
      reads = writes.reads 0 used h.packets h.rest h.reads;
      no_fault = writes.fault ∙ h.no_fault;
      requests = h.requests;
      takes = subst (Takes h.left) (sym keeps.requests) h.takes;
      begins = h.begins;
      left_is = left_stays h.left h.left_is;
      flush_at = flush_stays h.packets h.flush_at;
      is_sent = λ later has_unsent. sent_one s h.asked h.sent later packet (h.is_sent (packet ∷ later) (unsent_here s later repo has_unsent));
      breaks = λ later may. answering_one broken s h.asked h.sent later packet (h.breaks (packet ∷ later) (breaks_here s later repo may));
      given_is = given_on before h.sent h.given_is;
      fit = fit_more h.sent packet h.fit writes.fits;
    },
  )
  gives_in (Some outcome) s used over before repo ends =
      λ later has_unsent.
      let h = ends (packet ∷ later) (unsent_here s later repo has_unsent) in
      record {
        asked = h.asked;
        left = h.left;
        rest = h.rest;
        answers = h.answers;
        sent = h.sent ++ packet ∷ [];
        stream = h.stream;
        ends = h.ends;
        answered = h.answered;
        parts = subst (IsTail s h.left outcome) (sym (append_assoc h.sent (packet ∷ []) later)) h.parts;
        given_is = given_on before (advertised s ++ h.answers ++ h.sent) h.given_is
            ∙ ap spelled (append_assoc (advertised s ++ h.answers) h.sent (packet ∷ []));
        fit = subst AllFit (append_assoc (advertised s ++ h.answers) h.sent (packet ∷ []))
            (fit_more (advertised s ++ h.answers ++ h.sent) packet h.fit writes.fits);
      }

  pub goes_now : Goes state [] (spelling_of packet) old new
  goes_now s so_far over before r =
      let stands = gives_in (outcome_of old) s so_far over before r.repo r.stands in
      record {
        offer = keeps.offer ∙ r.offer;
        reads_for = ap offer_of keeps.requests ∙ r.reads_for;
        limit = ap limit_in keeps.requests ∙ r.limit;
        repo = ap (λ (x : RepoState). x.answers) keeps.repo ∙ r.repo;
        failures = failures_as (outcome_of old) (outcome_of new) s.failures _ _ same (ap (λ (x : RepoState). x.failures) keeps.repo) r.failures;
        within = omega (arith, r.within, ap kept_so_far keeps.requests, no_more);
        covered = covered r.covered;
        fits = writes.holds;
        stands = subst (λ (o : Option Outcome). StandsBy o s (so_far ++ []) over (before ++ spelling_of packet) new) (sym same)
            (subst (λ (l : List ℕ). StandsBy (outcome_of old) s l over (before ++ spelling_of packet) new) (sym (append-nil so_far)) stands);
      }

  -- what is pending, as the repository is now
  pub comes_before : ComesBefore state packet old new
  comes_before later has_unsent = unsent later (subst (λ (r : RepoState). AreUnsent new.offer r.answers new.phase later) keeps.repo has_unsent)

module _ {R A : Type 0} (state : R → RepoState) (old new : Server R A) (packet : Pkt)
    (writes : Writes old.reader packet new.reader) (keeps : Keeps state old new)
    (unsent : (later : List Pkt) → AreUnsent new.offer (state old.repo).answers new.phase later
    → AreUnsent old.offer (state old.repo).answers old.phase (packet ∷ later))
    (breaks : (later : List Pkt) → MayBreak (state old.repo).answers new.phase later → MayBreak (state old.repo).answers old.phase (packet ∷ later))
    (less : most_unsent new.offer (state old.repo).answers new.phase < most_unsent old.offer (state old.repo).answers old.phase)
    (same : outcome_of new ≡ outcome_of old)
    (left_stays : (left : List Given) → LeftIn old.phase left → LeftIn new.phase left)
    (flush_stays : (packets : List Given) → FlushIsAt old.phase packets → FlushIsAt new.phase packets) (no_more : kept_in new.phase ≤ kept_in old.phase)
    (covered : stored_in old.phase ≤ kept_in old.phase → stored_in new.phase ≤ kept_in new.phase)
    (no_pack : HasNoPackUnsentIn (state old.repo).answers old.phase → HasNoPackUnsentIn (state old.repo).answers new.phase) where
  fewer : most_left state new < most_left state old
  fewer = omega (arith, less, ap (λ (r : RepoState). most_unsent new.offer r.answers new.phase) keeps.repo)

  -- the same with any packs, where none of their bytes is pending
  gives_unread : HasNoPackUnsent state old → GivesUnread state old (spelling_of packet) new
  gives_unread none =
      let repo = (state old.repo).answers in
      let after = no_pack none in
      record {
        goes = λ packs. goes_now (state_with packs state) old new packet writes (keeps_any state old new packs keeps)
            (λ later has_unsent. any_unsent repo packs old.offer old.phase (packet ∷ later) none
            (unsent later (has_unsent_known repo packs new.offer new.phase later after has_unsent)))
            (λ later may. breaks_any repo packs old.phase (packet ∷ later) none (breaks later (breaks_known repo packs new.phase later after may)))
            same left_stays flush_stays no_more covered;
        has_unsent = subst (λ (r : RepoState). HasNoPackUnsentIn r.answers new.phase) (sym keeps.repo) after;
      }

  pub gives : Gives state old new
  gives =
      record {
        packet = packet;
        unsent = inl (comes_before state old new packet writes keeps unsent breaks same left_stays flush_stays no_more covered);
        less = fewer;
        held = writes.held;
        fits = writes.fits;
        credit = ap (λ (n : ℕ). 56 * n) (shut_counts_none new.reader writes.between);
        outcome = stays_as (outcome_of old) (outcome_of new) same;
        goes = goes_now state old new packet writes keeps unsent breaks same left_stays flush_stays no_more covered;
        unread = gives_unread;
      }

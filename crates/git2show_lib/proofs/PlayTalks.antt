-- A server of a play: what holds of it and of what was sent to it, by how many messages it gave.
use Rattle.std.proofs.Common.{arith, ◌≡◌, ◌⊎◌, inl, inr, ℕ, zero, suc, ◌+◌, ◌≤◌, ◌<◌, true, false, not, List, [], ◌∷◌, ◌++◌, Option, Some, None}
use Rattle.std.proofs.Common.{refl, sym, ap, ◌∙◌, subst, append_assoc, append-nil}
use Rattle.std.proofs.lemmas.Bool.{cases_lt}
use Rattle.std.proofs.lemmas.Grind.{flat_map-append}
use Rattle.git_pkt.specs.Packets.{Pkt, flush, resp_end, flushes, spelling_of}
use Rattle.git_pkt.specs.Splits.{Given, SpellsAll}
use Rattle.git_client.specs.Machine.Client.{spelled}
use Rattle.git_client.specs.Parts.{nearest, is_end_expected, is_zero}
use Rattle.git_client.specs.declared.events.Ending.TheVariants.{ResponseEnd}
use Rattle.git_server.specs.Answers.{AllFit}
use Rattle.git_server.specs.Repository.{RepoState}
use Rattle.git_server.specs.Machine.Server.{IsPackLost, StandsBy, outcome_of, repo_of, wants_input as waits_for_input}
use Rattle.git_server.specs.Sessions.{Setting, IsAnswered, Stream, advertised}
use Rattle.git_server.specs.declared.outcome.Outcome.{Outcome}
use Rattle.git_server.specs.declared.server.Server.{Server}
use Rattle.git_server.proofs.AtRest.{at_rest, all_used, few_asked, front_of, packets_of}
use Rattle.git_server.proofs.Flushes.{flushes-append}
use Rattle.git_server.proofs.Going.{no_outcome, some_unsent}
use Rattle.git_server.proofs.OneSession.{answers_end, flush_unsent}
use Rattle.git_server.proofs.Sent.{is_whole}
use Rattle.git_server.proofs.SessionLaws.{all_answered, going, going_on}
use Rattle.git2show_lib.specs.Machine.PlaySteps.{IsSpent, Settled, Stands}
use Rattle.git_laws.specs.Plays.{IsDone, IsLostFor, IsTalk, Talk}
use Rattle.git2show_lib.proofs.PlayFlushes.{Closes, LastFlush, closes_both, ends_closed, flushes_nearest, given_close}

pub spelled-append : (ps qs : List Pkt) → spelled (ps ++ qs) ≡ spelled ps ++ spelled qs
spelled-append ps qs = flat_map-append spelling_of ps qs

abbrev pub talk_of : List ℕ → List ℕ → Talk
talk_of content given = record { content = content; given = given }

-- how many reads of a server's repository have failed
abbrev pub failed_in : {R A : Type 0} → (R → RepoState) → Server R A → ℕ
failed_in state server = (state (repo_of server)).failures

-- all that is expected for what was sent has come
pub record Rests (s : Setting) (count : ℕ) (content given : List ℕ) : Type 0 where
  pub talk : (failed : ℕ) → IsTalk failed s (talk_of content given)
  pub gave_all : (failed : ℕ) → IsDone failed s (talk_of content given)
  pub done : IsAnswered s content given
  pub packets : List Pkt
  pub given_is : given ≡ spelled packets
  pub closed : Closes packets
  pub counted : flushes packets ≡ count

-- all messages that these packets call for were sent
abbrev pub Enough : Setting → List Pkt → List ℕ → Type 0
Enough s qs given = (ps : List Pkt) → AllFit ps → given ≡ spelled ps → flushes qs + flushes (advertised s) ≤ flushes ps

-- or all but the last one
abbrev pub Quota : Setting → List Pkt → List ℕ → Type 0
Quota s qs given = (ps : List Pkt) → AllFit ps → given ≡ spelled ps → flushes qs + flushes (advertised s) ≤ flushes ps + 1

module _ {R A : Type 0} {state : R → RepoState} {s : Setting} {qs : List Pkt} {content given : List ℕ} {server : Server R A} (closes : Closes qs)
    (st : Stands state s content given server) (is : content ≡ spelled qs) (quota : Quota s qs given) where
  quiet_by : (o : Option Outcome) → outcome_of server ≡ o → StandsBy o s st.used false given server → o ≡ None → st.unused ≡ []
  quiet_by None none (_, h) same =
      let (unsent, has_unsent) = some_unsent server.offer s.repo server.phase in
      let whole = is_whole s h.asked h.sent unsent (h.is_sent unsent has_unsent) in
      let stream : Stream s st.used h.asked h.left h.rest = record { packets = h.packets; splits = h.reads.splits; requests = h.requests } in
      let parts = sym (flushes-append h.sent unsent) ∙ ap flushes whole.parts ∙ flushes-append (advertised s) whole.answers in
      let count = answers_end s.repo h.asked whole.answers whole.answered in
      let many = quota h.sent h.fit h.given_is in
      elim (cases_lt (flushes unsent) 1) [
        | inl few ↦ st.keeps (flush_unsent server.offer s.repo server.phase unsent none has_unsent (omega (arith, few)))
        | inr some ↦ (all_used s qs st.used st.unused (sym is ∙ st.parts) (ends_closed qs closes) h.asked h.left h.rest stream
            (omega (arith, some, parts, count, many))).none_unused
      ]
  quiet_by (Some outcome) some h same = absurd (cc)

  -- a server that goes on has thrown nothing away: so it is settled
  pub settle : Settled state s content given server
  settle = record {
    used = st.used;
    unused = st.unused;
    parts = st.parts;
    runs = st.runs;
    settled = quiet_by (outcome_of server) refl st.runs.stands;
    in_time = st.in_time;
  }

module _ {R A : Type 0} {state : R → RepoState} {s : Setting} {qs : List Pkt} {content given : List ℕ} {server : Server R A} (closes : Closes qs)
    (st : Settled state s content given server) (is : content ≡ spelled qs) where
  -- a pack was lost after a read that failed
  lost_for : (outcome : Outcome) → outcome_of server ≡ Some outcome → IsLostFor s.failures (failed_in state server) outcome
  lost_for outcome some lost = st.runs.failures.risen (subst IsPackLost (sym some) lost)

  talk_by : (o : Option Outcome) → outcome_of server ≡ o → StandsBy o s st.used false given server
      → IsTalk (failed_in state server) s (talk_of content given)
  talk_by None none h =
      let goes = going state server s st.used false given st.runs h in
      record { used = st.used; unused = st.unused; parts = st.parts; runs = inl (st.settled none, goes.1) }
  talk_by (Some outcome) some h =
      let (unsent, has_unsent) = some_unsent server.offer s.repo server.phase in
      record { used = st.used; unused = st.unused; parts = st.parts; runs = inr (outcome, unsent, h unsent has_unsent, lost_for outcome some) }

  pub talk : IsTalk (failed_in state server) s (talk_of content given)
  talk = talk_by (outcome_of server) refl st.runs.stands

  -- a server that gives nothing more
  pub done : IsSpent state server → IsDone (failed_in state server) s (talk_of content given)
  done (inl waits) = record {
    used = st.used;
    unused = st.unused;
    parts = st.parts;
    done = inl (st.settled (no_outcome server.phase waits), all_answered state server s st.used false given st.runs waits);
  }
  done (inr (outcome, some, ends)) = record {
    used = st.used;
    unused = st.unused;
    parts = st.parts;
    done = inr (outcome, ends s st.used false given st.runs, lost_for outcome some);
  }

  -- if all messages were sent it waits for more, and nothing is expected
  pub waits_on : Enough s qs given → waits_for_input server ≡ true
  waits_on enough =
      (at_rest state server s qs st.used st.unused given st.runs (sym is ∙ st.parts) (ends_closed qs closes) enough st.in_time).waits

  pub rests : Enough s qs given → Rests s (flushes qs + flushes (advertised s)) content given
  rests enough =
      let rest = at_rest state server s qs st.used st.unused given st.runs (sym is ∙ st.parts) (ends_closed qs closes) enough st.in_time in
      let used_all : content ≡ st.used = rw (rest.all, append-nil st.used) at st.parts in
      let all : IsAnswered s content given = rw used_all (all_answered state server s st.used false given st.runs rest.waits) in
      let few = few_asked s qs content [] (sym is ∙ sym (append-nil content)) (ends_closed qs closes) all.asked all.left all.rest all.stream in
      let many = enough (advertised s ++ all.answers) all.fit all.given_is in
      record {
        talk = λ failed. record {
          used = st.used;
          unused = st.unused;
          parts = st.parts;
          runs = inl (rest.all, (going_on state server s st.used false given st.runs (no_outcome server.phase rest.waits)).1);
        };
        gave_all = λ failed. record { used = content; unused = []; parts = sym (append-nil content); done = inl (refl, all) };
        done = all;
        packets = advertised s ++ all.answers;
        given_is = all.given_is;
        closed = given_close s all.asked all.answers all.answered;
        counted = omega (arith, many, few, flushes-append (advertised s) all.answers, answers_end s.repo all.asked all.answers all.answered);
      }

  -- ---- as far as a client received it: after whole messages, with a packet after them

  module _ (arrived unheard : List ℕ) (gs : List Given) (before tail : List Pkt) (spells : SpellsAll 0 arrived gs []) (no_flush : flushes tail ≡ 0)
      (parts : arrived ++ unheard ≡ spelled before ++ (given ++ spelled tail))
      (counted : flushes (packets_of gs) ≡ flushes before + (flushes qs + flushes (advertised s))) where
    in_all : (ps : List Pkt) → given ≡ spelled ps → arrived ++ unheard ≡ spelled (before ++ (ps ++ tail))
    in_all ps given_is = parts ∙ simp (spelled-append, given_is)

    -- what was not received is packets, with as many flushes as were sent too many
    pub unheard_packets : (ps : List Pkt) → given ≡ spelled ps
        → (more : List Pkt) × (before ++ (ps ++ tail) ≡ packets_of gs ++ more) × (unheard ≡ spelled more)
        × (flushes ps ≡ flushes qs + flushes (advertised s) + flushes more)
    unheard_packets ps given_is =
        let front = front_of 0 arrived unheard [] gs (before ++ (ps ++ tail)) spells (in_all ps given_is) in (
          front.more,
          front.parts,
          front.left_is,
          omega (
            arith,
            counted,
            no_flush,
            ap flushes front.parts,
            flushes-append before (ps ++ tail),
            flushes-append ps tail,
            flushes-append (packets_of gs) front.more,
          ),
        )

    pub enough_received : Enough s qs given
    enough_received ps fit given_is = omega (arith, (unheard_packets ps given_is).3)

-- where all messages end with a flush, nothing is unheard
pub nothing_unheard : (before ps front more : List Pkt) (unheard : List ℕ) → Closes before → Closes ps → before ++ (ps ++ []) ≡ front ++ more
    → unheard ≡ spelled more → flushes more ≡ 0 → unheard ≡ []
nothing_unheard before ps front more unheard first second all is none =
    let closed = closes_both before (ps ++ []) first (closes_both ps [] second (inl refl)) in
    is ∙ ap spelled (ends_closed (before ++ (ps ++ [])) closed front more all none)

-- ---- with a response end after the message

-- a flush and a response end: with the first goes the second
end_or_nothing : (f front more : List Pkt) → (f ++ flush ∷ []) ++ resp_end ∷ [] ≡ front ++ more → flushes more ≡ 0
    → (more ≡ []) ⊎ (front ≡ f ++ flush ∷ [])
end_or_nothing f [] more e none =
    absurd (omega (arith, ap flushes e, flushes-append (f ++ flush ∷ []) (resp_end ∷ []), flushes-append f (flush ∷ []), none))
end_or_nothing [] (x ∷ []) more e none = inr (let same : flush ≡ x = cc in ap (λ (p : Pkt). p ∷ []) (sym same))
end_or_nothing [] (x ∷ y ∷ []) more e none = inl (let nothing : [] ≡ more = cc in sym nothing)
end_or_nothing [] (x ∷ y ∷ z ∷ front) more e none = absurd (cc)
end_or_nothing (y ∷ f) (x ∷ front) more e none =
    let tails : (f ++ flush ∷ []) ++ resp_end ∷ [] ≡ front ++ more = cc in
    let heads : y ≡ x = cc in
    elim (end_or_nothing f front more tails none) [
      | inl nothing ↦ inl nothing
      | inr same ↦ inr (rw (same, heads) refl)
    ]

nearest_last : (gs : List Given) (before f : List Pkt) (p : Pkt) → packets_of gs ≡ f ++ p ∷ [] → (r : List Pkt) × (nearest gs before ≡ p ∷ r)
nearest_last [] before [] p e = absurd (cc)
nearest_last [] before (y ∷ f) p e = absurd (cc)
nearest_last (g ∷ []) before [] p e = (before, let same : g.packet ≡ p = cc in ap (λ (x : Pkt). x ∷ before) same)
nearest_last (g ∷ k ∷ gs) before [] p e = absurd (cc)
nearest_last (g ∷ gs) before (y ∷ f) p e = nearest_last gs (g.packet ∷ before) f p (let tails : packets_of gs ≡ f ++ p ∷ [] = cc in tails)

not_zero : (n : ℕ) → 0 < n → not (is_zero n) ≡ true
not_zero zero some = absurd (omega (arith, some))
not_zero (suc n) some = refl

ends_expected : (gs : List Given) (f : List Pkt) → packets_of gs ≡ f ++ flush ∷ [] → 1 < flushes (packets_of gs)
    → is_end_expected ResponseEnd (nearest gs []) ≡ true
ends_expected gs f e many =
    let (r, is) = nearest_last gs [] f flush e in
    ap (is_end_expected ResponseEnd) is ∙ not_zero (flushes r) (omega (arith, many, flushes_nearest gs [], ap flushes is))

-- where a message ends with a flush, and a response end comes after it, a client that waits for no response end has received it
pub no_end_unheard : (before ps : List Pkt) (gs : List Given) (more : List Pkt) (unheard : List ℕ) → LastFlush ps
    → before ++ (ps ++ resp_end ∷ []) ≡ packets_of gs ++ more → unheard ≡ spelled more → flushes more ≡ 0 → 1 < flushes (packets_of gs)
    → is_end_expected ResponseEnd (nearest gs []) ≡ false → unheard ≡ []
no_end_unheard before ps gs more unheard last all is none many not_expected =
    let joined : ((before ++ last.front) ++ flush ∷ []) ++ resp_end ∷ [] ≡ packets_of gs ++ more =
    simp append_assoc (rw (last.is, append_assoc last.front (flush ∷ []) (resp_end ∷ [])) at all) in
    elim (end_or_nothing (before ++ last.front) (packets_of gs) more joined none) [
      | inl nothing ↦ is ∙ ap spelled nothing
      | inr same ↦ absurd (let expected = ends_expected gs (before ++ last.front) same many in let no : true ≡ false = sym expected ∙ not_expected in cc)
    ]

-- a closed list with a flush ends with one
pub last_of_closed : (ps : List Pkt) → Closes ps → 0 < flushes ps → LastFlush ps
last_of_closed ps (inl none) some = absurd (omega (arith, ap flushes none, some))
last_of_closed ps (inr last) some = last

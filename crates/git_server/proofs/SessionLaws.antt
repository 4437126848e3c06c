-- What a server's moments and its end are, without the server.
use Rattle.std.proofs.Common.{arith, ◌≡◌, ℕ, Bool, true, false, List, [], Option, Some, None, refl, sym, ap, ◌∙◌, append-nil, subst, inl, inr}
use Rattle.git_server.specs.Repository.{Repository, RepoState}
use Rattle.git_server.specs.Answers.{AllFit, spelled}
use Rattle.git_server.specs.Sessions.{Setting, Stream, GoesOn, IsTail, IsEnding, IsAnswered, IsRunning, IsSession}
use Rattle.git_server.specs.Machine.LatePacks.{state_with}
use Rattle.git_server.specs.Machine.Phases.{LeftIn, AreUnsent, outcome_in, has_unsent_in, reads_in, turn_in}
use Rattle.git_server.specs.declared.server.Phase.{Phase}
use Rattle.git_server.specs.declared.server.Phase.TheVariants.{Advertising, Between, Within, Answering, Refusing, Ended}
use Rattle.git_server.specs.declared.server.Turn.TheVariants.{Finished}
use Rattle.git_server.specs.declared.server.Pulled.TheVariants.{Finished as FinishedNow}
use Rattle.git_server.specs.Machine.Server.{Running, StandsBy, outcome_of, wants_input}
use Rattle.git_server.specs.Machine.ServerCalls.{AreUnsentNow, Pulls}
use Rattle.git_server.specs.declared.outcome.Outcome.{Outcome}
use Rattle.git_server.specs.declared.server.Server.{Server}
use Rattle.git_pkt.proofs.KnownRest.{none_between, sound_rest}
use Rattle.git_pkt.specs.Packets.{Pkt}
use Rattle.git_pkt.specs.Splits.{Given}
use Rattle.git_msg.specs.Asked.{Asked}
use Rattle.git_server.proofs.Sent.{all_sent}
use Rattle.git_server.proofs.Outcomes.{stays_as}
use Rattle.git_server.proofs.Going.{goes_nowhere, goes_on, no_outcome, nothing_unsent, some_unsent}

-- a server without an outcome that does not wait for bytes has something to send, and has begun no request
has_unsent_now : {A : Type 0} (phase : Phase A) (left : List Given) → outcome_in phase ≡ None → reads_in phase ≡ false → LeftIn phase left
    → (has_unsent_in phase ≡ true) × (left ≡ [])
has_unsent_now Between left none waits_not h = absurd (cc)
has_unsent_now Within left none waits_not h = absurd (cc)
has_unsent_now (Advertising line) left none waits_not h = (refl, h)
has_unsent_now (Answering answer offset) left none waits_not h = (refl, h)
has_unsent_now (Refusing fault) left none waits_not h = absurd (cc)
has_unsent_now (Ended outcome) left none waits_not h = absurd (cc)

module _ {R A : Type 0} (state : R → RepoState) (server : Server R A) (s : Setting) (used : List ℕ)
    (over : Bool) (given : List ℕ) (r : Running state s used over given server) where
  -- without an outcome the session goes on
  pub going : StandsBy None s used over given server → (over ≡ false) × GoesOn s used given
  going (not_over, h) = (
    not_over,
    record {
      asked = h.asked;
      left = h.left;
      rest = h.rest;
      sent = h.sent;
      unsent = (some_unsent server.offer s.repo server.phase).0;
      stream = record { packets = h.packets; splits = h.reads.splits; requests = h.requests };
      begins = h.begins;
      unrefused = (sound_rest server.reader 0 used h.packets h.rest h.no_fault h.reads).1;
      is_sent = h.is_sent (some_unsent server.offer s.repo server.phase).0 (some_unsent server.offer s.repo server.phase).1;
      given_is = h.given_is;
      fit = h.fit;
    },
  )

  pub going_on : outcome_of server ≡ None → (over ≡ false) × GoesOn s used given
  going_on none = going (goes_on state server s used over given none r)

  -- with one it ended so
  pub ending : (outcome : Outcome) → outcome_of server ≡ Some outcome → (unsent : List Pkt) × IsEnding s used over given outcome unsent
  ending outcome some =
      let stands : StandsBy (Some outcome) s used over given server = subst (λ (o : Option Outcome). StandsBy o s used over given server) some r.stands in
      let (unsent, has_unsent) = some_unsent server.offer s.repo server.phase in
      (unsent, stands unsent has_unsent)

  -- where it does not wait for bytes all that it used is whole requests
  pub at_a_request : outcome_of server ≡ None → wants_input server ≡ false → (asked : List Asked) × Stream s used asked [] []
  at_a_request none waits_not =
      let h = (goes_on state server s used over given none r).1 in
      let (has_unsent, left) = has_unsent_now server.phase h.left none waits_not h.left_is in
      let holds = (sound_rest server.reader 0 used h.packets h.rest h.no_fault h.reads).0 in
      let rest : h.rest ≡ [] = none_between server.reader h.rest holds (server.between has_unsent) in
      let stream : Stream s used h.asked h.left h.rest = record { packets = h.packets; splits = h.reads.splits; requests = h.requests } in
      (h.asked, subst (λ (gs : List Given). Stream s used h.asked gs []) left (subst (λ (bytes : List ℕ). Stream s used h.asked h.left bytes) rest stream))

  moment : (o : Option Outcome) → outcome_of server ≡ o → StandsBy o s used over given server → IsRunning s used over given
  moment None none h = inl (going h)
  moment (Some outcome) some h = let some_left_unsent =
      some_unsent server.offer s.repo server.phase in inr (outcome, some_left_unsent.0, h some_left_unsent.0 some_left_unsent.1)

  pub every_moment : IsRunning s used over given
  every_moment = moment (outcome_of server) refl r.stands

  pub its_end : (outcome : Outcome) → outcome_of server ≡ Some outcome → AreUnsentNow state server [] → IsSession s used over given outcome
  its_end outcome some none =
      let stands : StandsBy (Some outcome) s used over given server = subst (λ (o : Option Outcome). StandsBy o s used over given server) some r.stands in
      let h : IsEnding s used over given outcome [] = stands [] (subst (λ (p : Repository). AreUnsent server.offer p server.phase []) r.repo none) in
      record {
        asked = h.asked;
        left = h.left;
        rest = h.rest;
        answers = h.answers;
        stream = h.stream;
        ends = h.ends;
        answered = h.answered;
        tail = h.sent;
        is_tail = subst (IsTail s h.left outcome) (append-nil h.sent) h.parts;
        given_is = h.given_is;
        fit = h.fit;
      }

module _ {R A : Type 0} (state : R → RepoState) (server : Server R A) (s : Setting) (used : List ℕ) (over : Bool)
    (given : List ℕ) (r : Running state s used over given server) (wants : wants_input server ≡ true) where
  -- a server that waits for bytes has given the advertisement and each answer whole
  pub all_answered : IsAnswered s used given
  all_answered =
      let none = no_outcome server.phase wants in
      let h = (goes_on state server s used over given none r).1 in
      let all = all_sent s h.asked h.sent (h.is_sent [] (nothing_unsent server.offer s.repo server.phase wants)) in
      record {
        asked = h.asked;
        left = h.left;
        rest = h.rest;
        answers = all.answers;
        stream = record { packets = h.packets; splits = h.reads.splits; requests = h.requests };
        begins = h.begins;
        unrefused = (sound_rest server.reader 0 used h.packets h.rest h.no_fault h.reads).1;
        answered = all.answered;
        given_is = h.given_is ∙ ap spelled all.sent_is;
        fit = subst AllFit all.sent_is h.fit;
      }

-- a phase whose turn is an end has that outcome, and has nothing to send
turn_ends : {A : Type 0} (phase : Phase A) (outcome : Outcome) → turn_in phase ≡ Finished outcome → phase ≡ Ended outcome
turn_ends Between outcome h = absurd (cc)
turn_ends Within outcome h = absurd (cc)
turn_ends (Advertising line) outcome h = absurd (cc)
turn_ends (Answering answer offset) outcome h = absurd (cc)
turn_ends (Refusing fault) outcome h = absurd (cc)
turn_ends (Ended o) outcome h = let same : o ≡ outcome = cc in ap Ended same

-- what `pull` returns at the end
pub ends_now : {R A : Type 0} (state : R → RepoState) (server : Server R A) (outcome : Outcome) → turn_in server.phase ≡ Finished outcome
    → Pulls state server (FinishedNow outcome) server
ends_now {A = A} state server outcome turn =
    let is = turn_ends server.phase outcome turn in
    let nothing : AreUnsentNow state server [] = subst (λ (p : Phase A). AreUnsent server.offer (state server.repo).answers p []) (sym is) refl in
    record {
      goes = goes_nowhere state server;
      unread = λ none. record { goes = λ packs. goes_nowhere (state_with packs state) server; has_unsent = none };
      announces = (ap outcome_in is, nothing, refl, λ s used over given r. its_end state server s used over given r outcome (ap outcome_in is) nothing);
      outcome = stays_as (outcome_of server) (outcome_of server) refl;
      fits = omega arith;
      credit = omega arith;
    }

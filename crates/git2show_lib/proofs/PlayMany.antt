-- A play in which each request is answered by a server of its own.
use Rattle.std.proofs.Common.{arith, ◌≡◌, ℕ, Bool, true, false, List, [], ◌∷◌, ◌++◌, Option, Some, None}
use Rattle.std.proofs.Common.{Ok, Err, refl, sym, ap, ◌∙◌, append_assoc, append-nil, length-append}
use Rattle.std.proofs.lemmas.Grind.{flat_map-append}
use Rattle.std.proofs.lemmas.List.{map-append}
use Rattle.std.proofs.lemmas.List.Elements.{All-append, All-cons, All-nil}
use Rattle.git_names.specs.Digits.{lower_digit}
use Rattle.git_pkt.specs.Packets.{Pkt, resp_end}
use Rattle.git_pkt.specs.Streams.{flow}
use Rattle.git_pkt.specs.declared.fault.RunFault.{RunFault}
use Rattle.git_pkt.proofs.Spelling.{append_cancel_length}
use Rattle.git_msg.specs.Asked.{Asked}
use Rattle.git_msg.specs.Machine.HeldRequest.{asked_of}
use Rattle.git_msg.specs.Agents.{named_if}
use Rattle.git_msg.specs.WrittenRequest.{lines_written}
use Rattle.git_msg.specs.declared.offers.Caps.{Caps}
use Rattle.git_msg.specs.declared.requests.Request.{Request}
use Rattle.git_client.specs.Machine.Client.{History, Converses, can_ask, caps_of, nothing_yet, phase_of, questions_of, spelled, wants_input}
use Rattle.git_client.specs.Conversation.{HasNoted}
use Rattle.git_client.specs.Parts.{Terms, terms_of}
use Rattle.git_client.specs.Machine.RunSteps.{no_counts}
use Rattle.git_client.specs.Machine.Runs.{leaves_last}
use Rattle.git_client.specs.declared.client.Client.{Client}
use Rattle.git_client.specs.declared.events.Ending.TheVariants.{FlushOnly, ResponseEnd}
use Rattle.git_client.proofs.ClientRuns.{asks_on, quietly_stated, ran}
use Rattle.git_client.proofs.EventsReceived.{has_noted, is_whole}
use Rattle.git_client.proofs.Notes.{noted_same}
use Rattle.git_client.proofs.Phases.{quiet_where_expected, quiet_where_ready}
use Rattle.git_server.specs.Repository.{RepoState}
use Rattle.git_server.specs.Machine.Server.{repo_of, wants_input as waits_for_input}
use Rattle.git_server.specs.Sessions.{Setting, IsAnswered}
use Rattle.git_server.specs.declared.server.Server.{Server}
use Rattle.git_server.proofs.Going.{no_outcome}
use Rattle.git2show_lib.specs.Machine.PlaySteps.{Answers, AnswersTo, AsksServer, ReceivesMessage, Settled, Stands}
use Rattle.git_laws.specs.Plays.{AreAll, AreSent, IsDone, IsTalk, Talk, sent_each, setting_of, with_end}
use Rattle.git2show_lib.proofs.PlayFlushes.{questions_close, questions_count}
use Rattle.git2show_lib.proofs.PlayRuns.{PlayEnds, Plays, Runs, Turn, answer_stopped, begun, first_turn, given_is, arrived, now_whole, play_ends}
use Rattle.git2show_lib.proofs.PlayRuns.{settled, waits}
use Rattle.git2show_lib.proofs.PlayTalks.{failed_in, spelled-append, talk_of}

-- a response end, as the code writes it
abbrev pub end_bytes : List ℕ
end_bytes = 48 ∷ 48 ∷ 48 ∷ 50 ∷ []

end_is : end_bytes ≡ spelled (resp_end ∷ [])
unfolding lower_digit
end_is = refl

-- the repository of the last server is as it was at the beginning, so it can be handed on
pub record KeepsRepo {R A : Type 0} (state : R → RepoState) (s0 : RepoState) (h : History) (server : Server R A) : Type 0 where
  pub answers : (state (repo_of server)).answers ≡ s0.answers
  pub failures : (state (repo_of server)).failures ≡ s0.failures

-- a server that waits has failed at nothing
keeps_repo : {R A : Type 0} (state : R → RepoState) (t : Terms) (limit : ℕ) (s0 : RepoState) {h : History} {advertise : Bool} {content given : List ℕ}
    (server : Server R A) → Settled state (setting_of t limit s0 advertise) content given server → waits_for_input server ≡ true → KeepsRepo state s0 h server
keeps_repo state t limit s0 server st waits =
    let none = no_outcome server.phase waits in
    record {
      answers = st.runs.repo;
      failures = st.runs.failures.same (λ lost. let no : None ≡ Some _ = sym none ∙ lost.1 in cc);
    }

-- a further session
with_one : (Holds : Setting → Talk → Type 0) (t : Terms) (limit : ℕ) (s0 : RepoState) (first : Talk) (later : List Talk) (talk : Talk)
    → AreAll Holds t limit s0 first later → Holds (setting_of t limit s0 false) talk → AreAll Holds t limit s0 first (later ++ talk ∷ [])
with_one Holds t limit s0 first later talk all one = (
  all.0,
  All-append (Holds (setting_of t limit s0 false)) later (talk ∷ []) all.1
      (All-cons (Holds (setting_of t limit s0 false)) talk [] one (All-nil (Holds (setting_of t limit s0 false)))),
)

module _ {A : Type 0} (t : Terms) (h : History) (old new : Client A) (request : Request A) (u : List ℕ) (stands : Converses t h old)
    (ready : can_ask old ≡ true) (after : Converses t (record h { asked = h.asked ++ asked_of request ∷ []; given = h.given ++ u }) new)
    (expected : wants_input new ≡ true) where
  same_caps : caps_of new ≡ caps_of old
  same_caps =
      noted_same t h.asked h.used h.events (is_whole t h old stands ready) (asked_of request ∷ []) (h.asked ++ asked_of request ∷ []) [] h.used
      (caps_of new) (caps_of old) refl (sym (append-nil h.used))
      (has_noted t (record h { asked = h.asked ++ asked_of request ∷ []; given = h.given ++ u }) new after) (has_noted t h old stands)

  -- the request was sent
  question_is : u ≡ spelled (questions_of t (caps_of old) (asked_of request ∷ []))
  question_is =
      let q = asked_of request in
      let now : History = record h { asked = h.asked ++ q ∷ []; given = h.given ++ u } in
      let before = given_is t h old stands (quiet_where_ready (phase_of old) ready) in
      let first = questions_of t (caps_of old) h.asked in
      let second = questions_of t (caps_of old) (q ∷ []) in
      let all : h.given ++ u ≡ spelled first ++ spelled second =
      given_is t now new after (quiet_where_expected (phase_of new) expected)
      ∙ rw (
        same_caps,
        flat_map-append (lines_written (named_if (caps_of old).agent t.agent) (caps_of old).object_format t.format) h.asked (q ∷ []),
      ) (spelled-append first second)
      in
      (append_cancel_length h.given h.given u (spelled second) refl (all ∙ rw before refl)).1

module _ {R A : Type 0} (state : R → RepoState) (t : Terms) (limit : ℕ) (s0 : RepoState) where
  -- the next server of the same repository
  pub next_server : {h : History} (server new : Server R A) {repo : R} → t.format ≡ s0.answers.format → KeepsRepo state s0 h server → repo ≡ repo_of server
      → Stands state (setting_of (terms_of (state repo).answers.format FlushOnly) limit (state repo) false) [] [] new
      → Stands state (setting_of t limit s0 false) [] [] new
  next_server server new {repo} format keeps same st =
      rw format (rw (same, keeps.answers, keeps.failures) at st)

module _ {R A : Type 0} {state : R → RepoState} {t : Terms} {limit : ℕ} {s0 : RepoState} where
  received_kept : {advertise : Bool} {before tail : List Pkt} {content : List ℕ} {h : History} {server after : Server R A} {front : List (Request A)}
      {old new : Client A} {o0 o1 o2 p0 p1 p2 : Option (List ℕ)} → Turn state t limit s0 advertise before tail content h server → wants_input old ≡ true
      → Runs t false h front old no_counts (flow o0 o1) (flow p0 p1) → ReceivesMessage state (spelled tail) old new server after (flow o1 o2) (flow p1 p2)
      → Plays state t limit s0 (KeepsRepo state s0) front new after (flow o0 o2) (flow p0 p2)
  received_kept {after = after} turn expected r step =
      arrived turn expected r step {StandsBy = KeepsRepo state s0}
      (keeps_repo state t limit s0 after (settled turn step.arrives) (waits turn step.arrives (now_whole turn expected r step)))

  pub advertised_many : {old new : Client A} {server after : Server R A} {o1 o2 p1 p2 : Option (List ℕ)} → wants_input old ≡ true
      → Converses t nothing_yet old → Stands state (setting_of t limit s0 true) [] [] server
      → ReceivesMessage state [] old new server after (flow o1 o2) (flow p1 p2)
      → Plays state t limit s0 (KeepsRepo state s0) [] new after (flow o1 o2) (flow p1 p2)
  advertised_many {old} {server = server} {o1 = o1} {p1 = p1} expected stands st step =
      received_kept (first_turn server st) expected (begun t old o1 p1 expected stands) step

  module _ {front : List (Request A)} {old : Client A} {server : Server R A} {o0 o1 p0 p1 : Option (List ℕ)}
      (p : Plays state t limit s0 (KeepsRepo state s0) front old server (flow o0 o1) (flow p0 p1)) (ending : t.ending ≡ ResponseEnd) where
    sessions_stated : (caps : Caps) → HasNoted t p.h.asked p.h.used caps → AreSent ResponseEnd p.rest.first p.rest.later p.h.given (sent_each t caps p.h.asked)
    sessions_stated caps noted = rw ending at (p.rest.content caps noted)

    -- a request was asked of the next server
    pub next_turn : (request : Request A) (new : Client A) (next announced : Server R A) {o2 : Option (List ℕ)}
        → Stands state (setting_of t limit s0 false) [] [] next → (step : AsksServer state old new request next announced (flow o1 o2))
        → Turn state t limit s0 false p.rest.packets (resp_end ∷ []) step.asks.given
        (record p.h { asked = p.h.asked ++ asked_of request ∷ []; given = p.h.given ++ step.asks.given }) announced
    next_turn request new next announced st step =
        let q = asked_of request in
        let h = p.h in
        let first = p.rest.first in
        let later = p.rest.later in
        let question = step.asks.given in
        let on = step.asks.goes t h p.runs.along.stands in
        let is = question_is t h old new request question p.runs.along.stands p.ready on step.waits in
        let noted = has_noted t h old p.runs.along.stands in
        let whole = is_whole t h old p.runs.along.stands p.ready in
        let once = questions_count t (caps_of old) (q ∷ []) in
        let more = length-append h.asked (q ∷ []) in
        record {
          asks = questions_of t (caps_of old) (q ∷ []);
          closes = questions_close t (caps_of old) (q ∷ []);
          stated_is = is;
          given = [];
          used_is = p.rest.packets_are ∙ sym (append-nil (spelled p.rest.packets));
          stands = step.server_goes (setting_of t limit s0 false) [] [] st;
          quota = λ ps fit e. omega (arith, once);
          counted = omega (arith, p.rest.counted, once, more);
          ends = (refl, omega (arith, p.rest.counted), omega (arith, once), ending);
          first = λ all. first;
          later = λ all. later ++ talk_of question all ∷ [];
          all_sent = λ all caps x has.
              let same = noted_same t h.asked h.used h.events whole (q ∷ []) (h.asked ++ q ∷ []) x (h.used ++ x) caps (caps_of old) refl refl has noted in
              rw ending (
                (sessions_stated (caps_of old) noted).0,
                rw (map-append (λ (talk : Talk). talk.content) later (talk_of question all ∷ []), (sessions_stated (caps_of old) noted).1, is, same)
                    (sym (map-append (λ (a : Asked). spelled (questions_of t (caps_of old) (a ∷ []))) h.asked (q ∷ []))),
              );
          gave = λ all.
              rw (sym p.rest.packets_are ∙ p.rest.gave, flat_map-append with_end later (talk_of question all ∷ [])) (simp (append_assoc, append-nil));
          talks = λ failed all. with_one (IsTalk failed) t limit s0 first later (talk_of question all) (p.rest.talks failed);
          done = λ failed all. with_one (IsDone failed) t limit s0 first later (talk_of question all) (p.rest.done failed);
          answered = λ all. with_one (λ s talk. IsAnswered s talk.content talk.given) t limit s0 first later (talk_of question all) p.rest.answered;
        }

    module _ (request : Request A) {new : Client A} {next after : Server R A} {o2 p2 : Option (List ℕ)}
        (st : Stands state (setting_of t limit s0 false) [] [] next) where
      -- and not answered
      pub many_stopped : (requests later : List (Request A)) (fault : RunFault) → requests ≡ front ++ request ∷ later
          → AnswersTo state (Err fault) end_bytes old new request next after (flow o1 o2) (flow p1 p2)
          → PlayEnds t (failed_in state after) limit s0 requests (Err fault) (flow o0 o2) (flow p0 p2)
      many_stopped requests later fault split step =
          answer_stopped requests p later request fault split (λ asking announced written step. (_, next_turn request asking next announced st step))
          (rw end_is at step)

      -- or answered
      pub answered_many : {done : Unit {0}} → Answers state (Ok done) end_bytes old new request next after (flow o1 o2) (flow p1 p2)
          → Plays state t limit s0 (KeepsRepo state s0) (front ++ request ∷ []) new after (flow o0 o2) (flow p0 p2)
      answered_many a =
          received_kept (next_turn request a.asking next a.announced st a.asks) a.asks.waits
          (asks_on t false front old a.asking request no_counts [] p.runs p.ready a.asks.asks)
          (rw end_is at a.arrives)

    -- all requests were answered
    pub many_end : {requests : List (Request A)} → requests ≡ front ++ []
        → PlayEnds t (failed_in state server) limit s0 requests (Ok tt) (flow o0 o1) (flow p0 p1)
    many_end {requests} split =
        let h = p.h in
        let stands = p.runs.along.stands in
        play_ends t (failed_in state server) limit s0 requests (Ok tt) h front [] old split (ran p.runs) (record {
          first = p.rest.first;
          later = p.rest.later;
          run = record {
            all = refl;
            whole = is_whole t h old stands p.ready;
            leaves = p.runs.stays ∙ ap leaves_last (sym ending);
            content = quietly_stated t h old stands (quiet_where_ready (phase_of old) p.ready);
          };
          served = record { content = p.rest.content; gave = append-nil h.used ∙ p.rest.gave };
          sessions = rw ending p.rest.answered;
        })

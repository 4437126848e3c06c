-- A play in which one server answers all requests.
use Rattle.std.proofs.Common.{arith, ◌≡◌, inr, ℕ, suc, ◌≤◌, true, false, List, [], ◌∷◌, ◌++◌, length, Option}
use Rattle.std.proofs.Common.{Ok, Err, refl, sym, ap, ◌∙◌, append-nil, length-append}
use Rattle.git_pkt.specs.Packets.{Pkt, flush, flushes}
use Rattle.git_pkt.specs.Streams.{flow}
use Rattle.git_pkt.specs.declared.fault.RunFault.{RunFault}
use Rattle.git_msg.specs.Machine.HeldRequest.{asked_of}
use Rattle.git_msg.specs.declared.requests.Request.{Request}
use Rattle.git_client.specs.Machine.Client.{History, Converses, Leaves, caps_of, nothing_yet, phase_of, questions_of, spelled, wants_input}
use Rattle.git_client.specs.Parts.{Terms}
use Rattle.git_client.specs.Machine.RunSteps.{no_counts}
use Rattle.git_client.specs.Machine.Runs.{leaves_last}
use Rattle.git_client.specs.declared.client.Client.{Client}
use Rattle.git_client.specs.declared.events.Ending.TheVariants.{FlushOnly}
use Rattle.git_client.proofs.ClientRuns.{asks_on, has_stated, leaves_on}
use Rattle.git_client.proofs.Determined.{one_note}
use Rattle.git_client.proofs.EventsReceived.{has_noted, is_whole}
use Rattle.git_client.proofs.Phases.{quiet_where_expected}
use Rattle.git_server.specs.Repository.{RepoState}
use Rattle.git_server.specs.Sessions.{IsAnswered}
use Rattle.git_server.specs.declared.server.Server.{Server}
use Rattle.git_server.proofs.AtRest.{front_of, packets_of}
use Rattle.git_server.proofs.Flushes.{flushes-append}
use Rattle.git_server.proofs.Going.{no_outcome}
use Rattle.git2show_lib.specs.Machine.PlaySteps.{Answers, AnswersTo, AsksServer, ReceivesMessage, Settled, Stands, StandsOn, AnnouncesAll}
use Rattle.git_laws.specs.Plays.{AreSent, sent_each, setting_of}
use Rattle.git2show_lib.proofs.PlayFlushes.{Closes, advertises_once, closes_both, flushes_nearest, questions_close, questions_count}
use Rattle.git2show_lib.proofs.PlayRuns.{PlayEnds, Plays, Runs, Turn, answer_stopped, begun, first_turn, given_is, sole_turn, arrived, now_whole, play_ends}
use Rattle.git2show_lib.proofs.PlayRuns.{rested, settled, used_all}
use Rattle.git2show_lib.proofs.PlayTalks.{failed_in, settle, talk, talk_of}

module _ {R A : Type 0} (state : R → RepoState) (t : Terms) (limit : ℕ) (s0 : RepoState) where
  -- the server was sent all, and gave all, that the client sent and received
  pub record Alone (h : History) (server : Server R A) : Type 0 where
    pub settled : Settled state (setting_of t limit s0 true) h.given h.used server
    pub answered : IsAnswered (setting_of t limit s0 true) h.given h.used

module _ {R A : Type 0} {state : R → RepoState} {t : Terms} {limit : ℕ} {s0 : RepoState} where
  -- a message was received whole
  received_alone : {h : History} {server after : Server R A} {front : List (Request A)} {old new : Client A} {o0 o1 o2 p0 p1 p2 : Option (List ℕ)}
      → Turn state t limit s0 true [] [] h.given h server → wants_input old ≡ true → Runs t false h front old no_counts (flow o0 o1) (flow p0 p1)
      → ReceivesMessage state [] old new server after (flow o1 o2) (flow p1 p2)
      → Plays state t limit s0 (Alone state t limit s0) front new after (flow o0 o2) (flow p0 p2)
  received_alone {h} {after = after} turn expected r step =
      let whole = now_whole turn expected r step in
      let same = sym (append-nil (turn.given ++ step.arrives.given)) ∙ sym (used_all turn step.arrives whole) in
      arrived turn expected r step {StandsBy = Alone state t limit s0} (record {
        settled = rw same at (settled turn step.arrives);
        answered = rw same at (rested turn step.arrives whole).done;
      })

  pub advertised_alone : {old new : Client A} {server after : Server R A} {o1 o2 p1 p2 : Option (List ℕ)} → wants_input old ≡ true
      → Converses t nothing_yet old → Stands state (setting_of t limit s0 true) [] [] server
      → ReceivesMessage state [] old new server after (flow o1 o2) (flow p1 p2)
      → Plays state t limit s0 (Alone state t limit s0) [] new after (flow o1 o2) (flow p1 p2)
  advertised_alone {old} {server = server} {o1 = o1} {p1 = p1} expected stands st step =
      received_alone (first_turn server st) expected (begun t old o1 p1 expected stands) step

  -- what was sent is settled, so the server's relation holds of it
  still_stands : (h : History) (server : Server R A) → Alone state t limit s0 h server → Stands state (setting_of t limit s0 true) h.given h.used server
  still_stands h server a = record {
    used = a.settled.used;
    unused = a.settled.unused;
    parts = a.settled.parts;
    runs = a.settled.runs;
    keeps = λ waits. a.settled.settled (no_outcome server.phase waits);
    in_time = a.settled.in_time;
  }

  module _ {front : List (Request A)} {old : Client A} {server : Server R A} {o0 o1 p0 p1 : Option (List ℕ)}
      (p : Plays state t limit s0 (Alone state t limit s0) front old server (flow o0 o1) (flow p0 p1)) (ending : t.ending ≡ FlushOnly) where
    -- the server goes on from where it is
    goes_on : (u : List ℕ) (after : Server R A) → StandsOn state server u [] after
        → Stands state (setting_of t limit s0 true) (p.h.given ++ u) p.h.used after
    goes_on u after goes =
        rw (append-nil p.h.used) at (goes (setting_of t limit s0 true) p.h.given p.h.used (still_stands p.h server p.stands))

    -- one message more was received than requests were asked
    many_received : (ps : List Pkt) → p.h.used ≡ spelled ps → suc (length p.h.asked) ≤ flushes ps
    many_received ps e =
        let whole = is_whole t p.h old p.runs.along.stands p.ready in
        let front = front_of 0 p.h.used [] [] whole.given ps whole.splits.spelled (append-nil p.h.used ∙ e) in
        omega (arith, whole.all_flushes, flushes_nearest whole.given [], ap flushes front.parts, flushes-append (packets_of whole.given) front.more)

    all_sent : (content all : List ℕ) (each : List (List ℕ)) → AreSent t.ending (talk_of content all) [] content each
    all_sent content all each = rw ending (refl, refl)

    -- a request was asked of it
    pub next_turn : (request : Request A) (new : Client A) (after : Server R A) {o2 : Option (List ℕ)}
        → (step : AsksServer state old new request server after (flow o1 o2))
        → Turn state t limit s0 true [] [] (p.h.given ++ step.asks.given)
        (record p.h { asked = p.h.asked ++ asked_of request ∷ []; given = p.h.given ++ step.asks.given }) after
    next_turn request new after step =
        let asked = p.h.asked ++ asked_of request ∷ [] in
        let content = p.h.given ++ step.asks.given in
        let now : History = record p.h { asked = asked; given = content } in
        let more = length-append p.h.asked (asked_of request ∷ []) in
        sole_turn now (questions_of t (caps_of new) asked) after (questions_close t (caps_of new) asked)
        (given_is t now new (step.asks.goes t p.h p.runs.along.stands) (quiet_where_expected (phase_of new) step.waits))
        (questions_count t (caps_of new) asked) (goes_on step.asks.given after step.server_goes)
        (λ ps e. omega (arith, many_received ps e, more)) (λ all caps. all_sent content all (sent_each t caps asked))

    -- and not answered
    pub one_stopped : (requests later : List (Request A)) (request : Request A) (fault : RunFault) {new : Client A} {after : Server R A}
        {o2 p2 : Option (List ℕ)} → requests ≡ front ++ request ∷ later
        → AnswersTo state (Err fault) [] old new request server after (flow o1 o2) (flow p1 p2)
        → PlayEnds t (failed_in state after) limit s0 requests (Err fault) (flow o0 o2) (flow p0 p2)
    one_stopped requests later request fault split step =
        answer_stopped requests p later request fault split (λ asking announced written step. (_, next_turn request asking announced step)) step

    -- or answered
    pub answered_alone : (request : Request A) {new : Client A} {after : Server R A} {o2 p2 : Option (List ℕ)} {done : Unit {0}}
        → Answers state (Ok done) [] old new request server after (flow o1 o2) (flow p1 p2)
        → Plays state t limit s0 (Alone state t limit s0) (front ++ request ∷ []) new after (flow o0 o2) (flow p0 p2)
    answered_alone request a =
        received_alone (next_turn request a.asking a.announced a.asks) a.asks.waits
        (asks_on t false front old a.asking request no_counts [] p.runs p.ready a.asks.asks) a.arrives

    -- all requests were answered, and the client left the server
    pub one_end : {requests : List (Request A)} {mid new : Client A} {after : Server R A} → requests ≡ front ++ [] → Leaves old mid
        → AnnouncesAll state mid new server after → PlayEnds t (failed_in state after) limit s0 requests (Ok tt) (flow o0 o1) (flow p0 p1)
    one_end {requests} {mid} {new} {after} split leaving announces =
        let h = p.h in
        let s = setting_of t limit s0 true in
        let given = h.given ++ announces.conveys.given in
        let now : History = record h { left = true; given = given } in
        let at = leaves_on t false front old mid new no_counts [] p.runs leaving announces.conveys in
        let all = has_stated t now new at.stands (announces.conveys.all refl) in
        let leaves : Converses t (record h { left = true }) mid = leaving.leaves t h p.runs.along.stands in
        let same : all.caps ≡ caps_of mid =
        one_note t h.asked h.used all.caps (caps_of mid) all.noted (has_noted t (record h { left = true }) mid leaves) in
        let parts : given ≡ h.given ++ spelled (flush ∷ []) =
        all.content ∙ rw same (rw leaving.has_unsent at (sym leaves.spoken)) in
        let asks = questions_of t all.caps h.asked ++ flush ∷ [] in
        let closes : Closes asks =
        closes_both (questions_of t all.caps h.asked) (flush ∷ []) (questions_close t all.caps h.asked)
        (inr (record { front = []; is = refl })) in
        let rest = settle closes (goes_on announces.conveys.given after announces.server_goes) all.content (λ ps fit e. omega (
          arith,
          many_received ps e,
          flushes-append (questions_of t all.caps h.asked) (flush ∷ []),
          questions_count t all.caps h.asked,
          advertises_once s refl,
        )) in
        play_ends t (failed_in state after) limit s0 requests (Ok tt) now front [] new split at (record {
          first = talk_of given h.used;
          later = [];
          run = record { all = refl; whole = is_whole t h old p.runs.along.stands p.ready; leaves = ap leaves_last (sym ending); content = all };
          served = record { content = λ caps noted. all_sent given h.used (sent_each t caps h.asked); gave = refl };
          sessions = rw ending (record {
            questions = h.given;
            parts = parts;
            answered = p.stands.answered;
            talks = talk closes rest all.content;
          });
        })

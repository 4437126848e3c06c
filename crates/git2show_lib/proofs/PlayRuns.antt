-- A play so far: what the client asked and received, and the servers. One of them sends to it.
use Rattle.std.proofs.Common.{arith, ◌≡◌, inl, inr, ℕ, suc, ◌+◌, ◌≤◌, ◌<◌, Bool, true, false, flat_map, List, [], ◌∷◌, ◌++◌, length, Option, None}
use Rattle.std.proofs.Common.{Result, Err, refl, sym, ap, ◌∙◌, subst, append_assoc, append-nil}
use Rattle.std.proofs.lemmas.List.Elements.{All-nil}
use Rattle.git_pkt.specs.Packets.{Pkt, flushes, resp_end}
use Rattle.git_pkt.specs.Streams.{Flow, flow, Moves, is_broken}
use Rattle.git_pkt.specs.declared.fault.RunFault.{RunFault}
use Rattle.git_pkt.specs.declared.fault.RunFault.TheVariants.{ReadFault, WriteFault, ReadLimit, Refused}
use Rattle.git_msg.specs.Machine.HeldRequest.{asked_of}
use Rattle.git_msg.specs.declared.offers.Caps.{Caps}
use Rattle.git_msg.specs.declared.requests.Request.{Request}
use Rattle.git_client.specs.Machine.Client.{History, Converses, can_ask, caps_of, nothing_yet, phase_of, questions_of}
use Rattle.git_client.specs.Machine.Client.{request_of, sent_of, spelled, wants_input}
use Rattle.git_client.specs.Conversation.{HasNoted, IsConversation}
use Rattle.git_client.specs.Events.{EventValue, pack_bytes}
use Rattle.git_client.specs.Parts.{Terms, is_end_expected, nearest}
use Rattle.git_client.specs.Machine.RunSteps.{no_counts}
use Rattle.git_client.specs.Transcript.{transcript_of}
use Rattle.git_client.specs.declared.client.Client.{Client}
use Rattle.git_client.specs.declared.events.Ending.{Ending}
use Rattle.git_client.specs.declared.events.Ending.TheVariants.{FlushOnly, ResponseEnd}
use Rattle.git_client.specs.declared.receiving.Counts.{Counts}
use Rattle.git_client.proofs.AskedInTurn.{has_asked}
use Rattle.git_client.proofs.Carries.{is_quiet, nothing_unsent}
use Rattle.git_client.specs.Machine.Running.{Running}
use Rattle.git_client.proofs.ClientRuns.{Ran, anew, asks_on, begins, has_stated, receives_on, quietly_stated, ran, ran_unasked, refused_next, stayed}
use Rattle.git_client.proofs.EventsReceived.{all_is_sent, has_events, is_whole}
use Rattle.git_client.proofs.Faults.{first_fault}
use Rattle.git_client.proofs.Phases.{quiet_where_failed, quiet_where_ready}
use Rattle.git_server.specs.Repository.{RepoState}
use Rattle.git_server.specs.Machine.Server.{wants_input as waits_for_input}
use Rattle.git_server.specs.Sessions.{IsAnswered, advertised}
use Rattle.git_server.specs.declared.server.Server.{Server}
use Rattle.git_server.proofs.AtRest.{packets_of}
use Rattle.git_server.proofs.Flushes.{flushes-append}
use Rattle.git2show_lib.specs.Machine.PlaySteps.{AnswersTo, AsksServer, AsksServerTo, ReceivesFront, ReceivesMessage, ReceivesMessageTo, IsSpent}
use Rattle.git2show_lib.specs.Machine.PlaySteps.{Settled, Stands, silent}
use Rattle.git_laws.specs.Plays.{AreAll, AreSent, AreServed, EndsAs, IsDone, IsServed, IsTalk, Played, Talk, sent_each, setting_of, with_end}
use Rattle.git2show_lib.proofs.PlayFlushes.{Closes, advertises_once, flushes_nearest}
use Rattle.git2show_lib.proofs.PlayTalks.{Enough, Quota, Rests, done, enough_received, failed_in, last_of_closed, no_end_unheard, nothing_unheard}
use Rattle.git2show_lib.proofs.PlayTalks.{rests, settle, spelled-append, talk, talk_of, unheard_packets, waits_on}

-- ---- the client's run

module _ {A : Type 0} (t : Terms) where
  -- what a client has asked and received, and what was written of it: it reads no stream, and writes no other
  abbrev pub Runs : Bool → History → List (Request A) → Client A → Counts → Flow → Flow → Type 0
  Runs broken h front client counts out pack = Running broken t h front client counts [] silent silent out pack silent

  pub begun : (client : Client A) (out pack : Option (List ℕ)) → wants_input client ≡ true → Converses t nothing_yet client
      → Runs false nothing_yet [] client no_counts (flow out out) (flow pack pack)
  begun client out pack expected stands = begins t client None None None out pack None expected stands tt

  -- a client with nothing to send has sent all requests
  pub given_is : (h : History) (client : Client A) → Converses t h client → is_quiet (phase_of client) ≡ true
      → h.given ≡ spelled (questions_of t (caps_of client) h.asked)
  given_is h client stands quietly =
      all_is_sent t h client stands (nothing_unsent (phase_of client) (request_of client) quietly)
      ∙ ap (λ (b : Bool). spelled (sent_of t (caps_of client) h.asked b)) (stayed t h client stands quietly)
      ∙ ap spelled (append-nil (questions_of t (caps_of client) h.asked))

  module _ (failed : ℕ) (limit : ℕ) (s0 : RepoState) (requests : List (Request A)) where
    -- how a play with this answer moved its streams
    abbrev pub PlayEnds : Result (Unit {0}) RunFault → Flow → Flow → Type 0
    PlayEnds result out pack = Moves (is_broken result) (Played failed t limit s0 requests result) [] (out ∷ pack ∷ [])

    pub play_ends : (result : Result (Unit {0}) RunFault) (h : History) (front rest : List (Request A)) (client : Client A) {out pack : Flow}
        → requests ≡ front ++ rest → Ran (is_broken result) t h front client [] silent silent out pack silent → EndsAs failed t limit s0 result rest h
        → PlayEnds result out pack
    play_ends result h front rest client split at ends = record {
      used = [];
      given = transcript_of h.asked h.events ∷ pack_bytes h.events ∷ [];
      read = tt;
      written = (at.announced, (at.sent, tt));
      related = record {
        h = h;
        rest = rest;
        nothing_read = refl;
        announced = refl;
        arrived = has_events t h client at.stands;
        asked = has_asked t requests front rest h split at.in_turn;
        ends = ends;
      };
    }

-- ---- the servers

-- all servers are at rest: each gave all that its session gives for what was sent to it, and the client received it
pub record AtRest (t : Terms) (limit : ℕ) (s0 : RepoState) (h : History) : Type 0 where
  pub first : Talk
  pub later : List Talk
  pub content : (caps : Caps) → HasNoted t h.asked h.used caps → AreSent t.ending first later h.given (sent_each t caps h.asked)
  pub gave : h.used ≡ first.given ++ flat_map with_end later
  pub talks : (failed : ℕ) → AreAll (IsTalk failed) t limit s0 first later
  pub done : (failed : ℕ) → AreAll (IsDone failed) t limit s0 first later
  pub answered : AreAll (λ s talk. IsAnswered s talk.content talk.given) t limit s0 first later
  pub packets : List Pkt
  pub packets_are : h.used ≡ spelled packets
  pub counted : flushes packets ≡ suc (length h.asked)

-- what comes after the expected message: nothing, or a response end if others sent a message before
abbrev pub IsTail : Terms → (tail before asks : List Pkt) → Type 0
IsTail t [] before asks = Closes before
IsTail t (p ∷ ps) before asks = (p ∷ ps ≡ resp_end ∷ []) × (0 < flushes before) × (0 < flushes asks) × (t.ending ≡ ResponseEnd)

-- before anything was sent
no_questions : (e : Ending) (given : List ℕ) → AreSent e (talk_of [] given) [] [] []
no_questions FlushOnly given = (refl, refl)
no_questions ResponseEnd given = (refl, refl)

module _ {R A : Type 0} (state : R → RepoState) (t : Terms) (limit : ℕ) (s0 : RepoState) where
  -- a message of this server is expected, and after it this comes: it was sent this, and sent something before; others before it sent these
  -- packets. Where it gives all this, these are the sessions.
  pub record Turn (advertise : Bool) (before tail : List Pkt) (content : List ℕ) (h : History) (server : Server R A) : Type 0 where
    pub asks : List Pkt
    pub closes : Closes asks
    pub stated_is : content ≡ spelled asks
    pub given : List ℕ
    pub used_is : h.used ≡ spelled before ++ given
    pub stands : Stands state (setting_of t limit s0 advertise) content given server
    pub quota : Quota (setting_of t limit s0 advertise) asks given
    pub counted : flushes before + (flushes asks + flushes (advertised (setting_of t limit s0 advertise))) ≡ suc (length h.asked)
    pub ends : IsTail t tail before asks
    pub first : List ℕ → Talk
    pub later : List ℕ → List Talk
    pub all_sent : (all : List ℕ) (caps : Caps) (x : List ℕ) → HasNoted t h.asked (h.used ++ x) caps
        → AreSent t.ending (first all) (later all) h.given (sent_each t caps h.asked)
    pub gave : (all : List ℕ) → spelled before ++ (all ++ spelled tail) ≡ (first all).given ++ flat_map with_end (later all)
    pub talks : (failed : ℕ) (all : List ℕ) → IsTalk failed (setting_of t limit s0 advertise) (talk_of content all)
        → AreAll (IsTalk failed) t limit s0 (first all) (later all)
    pub done : (failed : ℕ) (all : List ℕ) → IsDone failed (setting_of t limit s0 advertise) (talk_of content all)
        → AreAll (IsDone failed) t limit s0 (first all) (later all)
    pub answered : (all : List ℕ) → IsAnswered (setting_of t limit s0 advertise) content all
        → AreAll (λ s talk. IsAnswered s talk.content talk.given) t limit s0 (first all) (later all)

  -- a play so far, where this holds of the server
  pub record Plays (StandsBy : History → Server R A → Type 0) (front : List (Request A)) (client : Client A) (server : Server R A) (out pack : Flow)
      : Type 0 where
    pub h : History
    pub runs : Runs t false h front client no_counts out pack
    pub ready : can_ask client ≡ true
    pub rest : AtRest t limit s0 h
    pub stands : StandsBy h server

-- a message was received, as far as that went
module _ {R A : Type 0} {state : R → RepoState} {t : Terms} where
  received_runs : {broken : Bool} {h : History} {front : List (Request A)} {old new : Client A} {counts : Counts} {server after : Server R A}
      {end unheard : List ℕ} {o0 o1 o2 p0 p1 p2 : Option (List ℕ)} → Runs t false h front old no_counts (flow o0 o1) (flow p0 p1) → wants_input old ≡ true
      → (arrives : ReceivesFront state broken old new no_counts counts server after end unheard (flow o1 o2) (flow p1 p2))
      → Runs t broken (record h { used = h.used ++ arrives.used; events = h.events ++ arrives.arrived.events }) front new counts (flow o0 o2) (flow p0 p2)
  received_runs {broken} {h} {front} {old} {new} {counts} r expected arrives =
      receives_on t broken front old new [] [] r expected
      (record { came = arrives.used; used = arrives.used; counts = counts; read = tt; parts = sym (append-nil arrives.used); bytes = arrives.arrived })

module _ {R A : Type 0} {state : R → RepoState} {t : Terms} {limit : ℕ} {s0 : RepoState} where
  -- a message of the first server is expected, and no other answered before
  pub sole_turn : (h : History) (asks : List Pkt) (server : Server R A) → Closes asks → h.given ≡ spelled asks → flushes asks ≡ length h.asked
      → Stands state (setting_of t limit s0 true) h.given h.used server → ((ps : List Pkt) → h.used ≡ spelled ps → length h.asked ≤ flushes ps)
      → ((all : List ℕ) (caps : Caps) → AreSent t.ending (talk_of h.given all) [] h.given (sent_each t caps h.asked))
      → Turn state t limit s0 true [] [] h.given h server
  sole_turn h asks server closes content count st arrived all_sent =
      let once = advertises_once (setting_of t limit s0 true) refl in
      record {
        asks = asks;
        closes = closes;
        stated_is = content;
        given = h.used;
        used_is = refl;
        stands = st;
        quota = λ ps fit e. omega (arith, once, count, arrived ps e);
        counted = omega (arith, once, count);
        ends = inl refl;
        first = λ all. talk_of h.given all;
        later = λ all. [];
        all_sent = λ all caps x noted. all_sent all caps;
        gave = λ all. refl;
        talks = λ failed all talk. (talk, All-nil (IsTalk failed (setting_of t limit s0 false)));
        done = λ failed all done. (done, All-nil (IsDone failed (setting_of t limit s0 false)));
        answered = λ all answered. (answered, All-nil (λ (talk : Talk). IsAnswered (setting_of t limit s0 false) talk.content talk.given));
      }

  pub first_turn : (server : Server R A) → Stands state (setting_of t limit s0 true) [] [] server → Turn state t limit s0 true [] [] [] nothing_yet server
  first_turn server st =
      sole_turn nothing_yet [] server (inl refl) refl refl st (λ ps e. omega arith) (λ all caps. no_questions t.ending all)

  module _ {advertise : Bool} {before tail : List Pkt} {content : List ℕ} {h : History} {server after : Server R A} {broken : Bool} {old new : Client A}
      {counts : Counts} {unheard : List ℕ} {out packs : Flow} (turn : Turn state t limit s0 advertise before tail content h server)
      (arrives : ReceivesFront state broken old new no_counts counts server after (spelled tail) unheard out packs) where
    pub settled : Settled state (setting_of t limit s0 advertise) content (turn.given ++ arrives.given) after
    settled =
        arrives.server_goes (setting_of t limit s0 advertise) content turn.given (settle turn.closes turn.stands turn.stated_is turn.quota)

    gave_all : (h.used ++ arrives.used) ++ unheard ≡ spelled before ++ ((turn.given ++ arrives.given) ++ spelled tail)
    gave_all = simp (turn.used_is, append_assoc, arrives.parts)

    -- what was received comes of the servers
    served : (events : List EventValue) → IsServed (failed_in state after) t limit s0 (record h { used = h.used ++ arrives.used; events = events })
    served events =
        let all = turn.given ++ arrives.given in
        record {
          first = turn.first all;
          later = turn.later all;
          unheard = unheard;
          served = record { content = λ caps noted. turn.all_sent all caps arrives.used noted; gave = gave_all ∙ turn.gave all };
          sessions = turn.talks (failed_in state after) all (talk turn.closes settled turn.stated_is);
        }

    -- nothing more is sent
    all_done : IsSpent state after
        → AreAll (IsDone (failed_in state after)) t limit s0 (turn.first (turn.given ++ arrives.given)) (turn.later (turn.given ++ arrives.given))
    all_done spent = turn.done (failed_in state after) (turn.given ++ arrives.given) (done turn.closes settled turn.stated_is spent)

    -- a message was received whole
    module _ {events : List EventValue} (whole : IsConversation t h.asked (h.used ++ arrives.used) events) where
      no_flush : (tail : List Pkt) → IsTail t tail before turn.asks → flushes tail ≡ 0
      no_flush [] ends = refl
      no_flush (p ∷ ps) ends = ap flushes ends.0

      count : flushes (packets_of whole.given) ≡ flushes before + (flushes turn.asks + flushes (advertised (setting_of t limit s0 advertise)))
      count = omega (arith, whole.all_flushes, flushes_nearest whole.given [], turn.counted)

      enough : Enough (setting_of t limit s0 advertise) turn.asks (turn.given ++ arrives.given)
      enough =
          enough_received turn.closes settled turn.stated_is (h.used ++ arrives.used) unheard whole.given before tail whole.splits.spelled
          (no_flush tail turn.ends) gave_all count

      pub waits : waits_for_input after ≡ true
      waits = waits_on turn.closes settled turn.stated_is enough

      pub rested : Rests (setting_of t limit s0 advertise) (flushes turn.asks + flushes (advertised (setting_of t limit s0 advertise))) content
          (turn.given ++ arrives.given)
      rested = rests turn.closes settled turn.stated_is enough

      left_by : (tail : List Pkt) → IsTail t tail before turn.asks → (more : List Pkt) → before ++ (rested.packets ++ tail) ≡ packets_of whole.given ++ more
          → unheard ≡ spelled more → flushes more ≡ 0 → unheard ≡ []
      left_by [] closed more all is none = nothing_unheard before rested.packets (packets_of whole.given) more unheard closed rested.closed all is none
      left_by (p ∷ ps) (same, some, asked, ending) more all is none =
          no_end_unheard before rested.packets whole.given more unheard
          (last_of_closed rested.packets rested.closed (omega (arith, rested.counted, asked)))
          (ap (λ (l : List Pkt). before ++ (rested.packets ++ l)) (sym same) ∙ all) is none (omega (arith, count, some, asked))
          (subst (λ (e : Ending). is_end_expected e (nearest whole.given []) ≡ false) ending whole.no_end_expected)

      none_unheard : unheard ≡ []
      none_unheard =
          let (more, all, unheard_is, in_more) = unheard_packets turn.closes settled turn.stated_is (h.used ++ arrives.used) unheard whole.given before tail
          whole.splits.spelled (no_flush tail turn.ends) gave_all count rested.packets rested.given_is in
          left_by tail turn.ends more all unheard_is (omega (arith, in_more, rested.counted))

      pub used_all : h.used ++ arrives.used ≡ spelled before ++ ((turn.given ++ arrives.given) ++ spelled tail)
      used_all = sym (append-nil (h.used ++ arrives.used)) ∙ ap (λ (l : List ℕ). (h.used ++ arrives.used) ++ l) (sym none_unheard) ∙ gave_all

      pub at_rest : AtRest t limit s0 (record h { used = h.used ++ arrives.used; events = events })
      at_rest =
          let all = turn.given ++ arrives.given in
          record {
            first = turn.first all;
            later = turn.later all;
            content = λ caps noted. turn.all_sent all caps arrives.used noted;
            gave = used_all ∙ turn.gave all;
            talks = λ failed. turn.talks failed all (rested.talk failed);
            done = λ failed. turn.done failed all (rested.gave_all failed);
            answered = turn.answered all rested.done;
            packets = before ++ (rested.packets ++ tail);
            packets_are = used_all ∙ simp (spelled-append, rested.given_is);
            counted = omega (
              arith,
              flushes-append before (rested.packets ++ tail),
              flushes-append rested.packets tail,
              no_flush tail turn.ends,
              rested.counted,
              turn.counted,
            );
          }

  -- ---- a message that was received

  -- a message was received whole
  module _ {advertise : Bool} {before tail : List Pkt} {content : List ℕ} {h : History} {server after : Server R A} {front : List (Request A)}
      {old new : Client A} {o0 o1 o2 p0 p1 p2 : Option (List ℕ)} (turn : Turn state t limit s0 advertise before tail content h server)
      (expected : wants_input old ≡ true) (r : Runs t false h front old no_counts (flow o0 o1) (flow p0 p1))
      (step : ReceivesMessage state (spelled tail) old new server after (flow o1 o2) (flow p1 p2)) where
    abbrev now : History
    now = record h { used = h.used ++ step.arrives.used; events = h.events ++ step.arrives.arrived.events }

    pub now_whole : IsConversation t h.asked (h.used ++ step.arrives.used) (h.events ++ step.arrives.arrived.events)
    now_whole = is_whole t now new (received_runs r expected step.arrives).along.stands step.asks

    pub arrived : {StandsBy : History → Server R A → Type 0} → StandsBy now after
        → Plays state t limit s0 StandsBy front new after (flow o0 o2) (flow p0 p2)
    arrived stands = record {
      h = now;
      runs = anew t step.asks (received_runs r expected step.arrives);
      ready = step.asks;
      rest = at_rest turn step.arrives now_whole;
      stands = stands;
    }

  module _ (requests : List (Request A)) where
    -- a message was not received to its end
    stopped : (fault : RunFault) {advertise : Bool} {before tail : List Pkt} {content : List ℕ} {h : History} (front rest : List (Request A))
        {old : Client A} (new : Client A) {server : Server R A} (after : Server R A) {o0 o1 o2 p0 p1 p2 : Option (List ℕ)} → requests ≡ front ++ rest
        → wants_input old ≡ true
        → Turn state t limit s0 advertise before tail content h server → Runs t false h front old no_counts (flow o0 o1) (flow p0 p1)
        → ReceivesMessageTo state (Err fault) (spelled tail) old new server after (flow o1 o2) (flow p1 p2)
        → PlayEnds t (failed_in state after) limit s0 requests (Err fault) (flow o0 o2) (flow p0 p2)
    unfolding served
    stopped ReadFault front rest new after split expected turn r (ended, counts, none) = absurd none
    stopped ReadLimit front rest new after split expected turn r (ended, counts, none) = absurd none
    stopped WriteFault {h = h} front rest {old} new after split expected turn r (ended, counts, (unheard, arrives)) =
        let now : History = record h { used = h.used ++ arrives.used; events = h.events ++ arrives.arrived.events } in
        let on = received_runs r expected arrives in
        play_ends t (failed_in state after) limit s0 requests (Err WriteFault) now front rest new split (ran on) (record {
          reached = now;
          same_used = refl;
          asked = inl refl;
          stays = on.stays;
          all_sent = has_stated t now new on.along.stands arrives.arrived.has_unsent;
          is_served = served turn arrives now.events;
        })
    stopped (Refused fault) {h = h} front rest new after split expected turn r (ended, counts, (unheard, step)) =
        let arrives = step.arrives in
        let now : History = record h { used = h.used ++ arrives.used; events = h.events ++ arrives.arrived.events } in
        let on = received_runs r expected arrives in
        let quietly = quiet_where_failed (phase_of new) fault step.announced in
        let given = served turn arrives now.events in
        play_ends t (failed_in state after) limit s0 requests (Err (Refused fault)) now front rest new split (ran on) (record {
          first = turn.first (turn.given ++ arrives.given);
          later = turn.later (turn.given ++ arrives.given);
          unheard = unheard;
          ended = ended;
          fault_is = inl (record { first = first_fault t now new fault on.along.stands step.announced; timely = step.timely });
          stays = on.stays;
          content = quietly_stated t now new on.along.stands quietly;
          served = given.served;
          sessions = given.sessions;
          done = λ over. ((step.done over).0, all_done turn arrives (step.done over).1);
        })

    -- the advertisement was not
    pub advertising_stopped : (fault : RunFault) {old : Client A} (new : Client A) {server : Server R A} (after : Server R A) {o1 o2 p1 p2 : Option (List ℕ)}
        → wants_input old ≡ true → Converses t nothing_yet old → Stands state (setting_of t limit s0 true) [] [] server
        → ReceivesMessageTo state (Err fault) [] old new server after (flow o1 o2) (flow p1 p2)
        → PlayEnds t (failed_in state after) limit s0 requests (Err fault) (flow o1 o2) (flow p1 p2)
    advertising_stopped fault {old} new {server} after {o1} {p1 = p1} expected stands st step =
        stopped fault [] requests new after refl expected (first_turn server st) (begun t old o1 p1 expected stands) step

    -- ---- a request

    module _ {StandsBy : History → Server R A → Type 0} {front : List (Request A)} {old : Client A} {server : Server R A}
        {o0 o1 p0 p1 : Option (List ℕ)} (p : Plays state t limit s0 StandsBy front old server (flow o0 o1) (flow p0 p1)) (later : List (Request A))
        (request : Request A) where
      still_served : AreServed t p.h [] p.rest.first p.rest.later
      still_served = record { content = p.rest.content; gave = append-nil p.h.used ∙ p.rest.gave }

      -- it was refused, or its line could not be written
      asking_stopped : (fault : RunFault) (new : Client A) (next after : Server R A) {o2 : Option (List ℕ)} → requests ≡ front ++ request ∷ later
          → AsksServerTo state (Err fault) old new request next after (flow o1 o2)
          → PlayEnds t (failed_in state after) limit s0 requests (Err fault) (flow o0 o2) (flow p0 p1)
      asking_stopped ReadFault new next after split step = absurd step
      asking_stopped ReadLimit new next after split step = absurd step
      asking_stopped WriteFault new next after split step =
          play_ends t (failed_in state after) limit s0 requests (Err WriteFault) _ (front ++ request ∷ []) later new
          (split ∙ sym (append_assoc front (request ∷ []) later)) (ran (asks_on t true front old new request no_counts [] p.runs p.ready step)) (record {
            reached = p.h;
            same_used = refl;
            asked = inr (asked_of request, refl);
            stays = p.runs.stays;
            all_sent = quietly_stated t p.h old p.runs.along.stands (quiet_where_ready (phase_of old) p.ready);
            is_served = record {
              first = p.rest.first;
              later = p.rest.later;
              unheard = [];
              served = still_served;
              sessions = p.rest.talks (failed_in state after);
            };
          })
      asking_stopped (Refused fault) new next after split (step, same) =
          let stands = p.runs.along.stands in
          play_ends t (failed_in state after) limit s0 requests (Err (Refused fault)) p.h front (request ∷ later) old split
          (ran_unasked t p.runs step) (record {
            first = p.rest.first;
            later = p.rest.later;
            unheard = [];
            ended = false;
            fault_is = inr (refused_next t p.h later request old new fault stands p.ready step);
            stays = p.runs.stays;
            content = quietly_stated t p.h old stands (quiet_where_ready (phase_of old) p.ready);
            served = still_served;
            sessions = p.rest.talks (failed_in state after);
            done = λ no. absurd (cc);
          })

      -- it was not answered
      pub answer_stopped : (fault : RunFault) {new : Client A} {next after : Server R A} {advertise : Bool} {before tail : List Pkt}
          {o2 p2 : Option (List ℕ)} → requests ≡ front ++ request ∷ later
          → ((asking : Client A) (announced : Server R A) (written : Option (List ℕ))
          (step : AsksServer state old asking request next announced (flow o1 written))
          → (content : List ℕ) × Turn state t limit s0 advertise before tail content
          (record p.h { asked = p.h.asked ++ asked_of request ∷ []; given = p.h.given ++ step.asks.given }) announced)
          → AnswersTo state (Err fault) (spelled tail) old new request next after (flow o1 o2) (flow p1 p2)
          → PlayEnds t (failed_in state after) limit s0 requests (Err fault) (flow o0 o2) (flow p0 p2)
      answer_stopped fault {new} {after = after} split turns (inl a) =
          let (content, turn) = turns a.asking a.announced a.written a.asks in
          stopped fault (front ++ request ∷ []) later new after (split ∙ sym (append_assoc front (request ∷ []) later)) a.asks.waits turn
          (asks_on t false front old a.asking request no_counts [] p.runs p.ready a.asks.asks) a.arrives
      answer_stopped fault {new} {next} {after} {o2 = o2} split turns (inr (step, same)) =
          subst (λ (p2 : Option (List ℕ)). PlayEnds t (failed_in state after) limit s0 requests (Err fault) (flow o0 o2) (flow p0 p2)) (sym same)
          (asking_stopped fault new next after split step)

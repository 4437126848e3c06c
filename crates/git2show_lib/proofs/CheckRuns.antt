-- A check so far: a request is read, a client receives what comes for it, or that passes.
use Rattle.std.proofs.Common.{arith, ◌≡◌, ℕ, ◌+◌, ◌-◌, Bool, true, false, List, [], ◌∷◌, ◌++◌, length, Option, None, Some}
use Rattle.std.proofs.Common.{refl, sym, subst, ap, ◌∙◌, append_assoc, append-nil}
use Rattle.std.proofs.lemmas.List.Elements.{All-append, All-cons, All-nil}
use Rattle.git_pkt.specs.Splits.{Given, Splits}
use Rattle.git_pkt.specs.Streams.{Flow}
use Rattle.git_pkt.specs.declared.fault.Kind.{Kind}
use Rattle.git_msg.specs.Advertisement.{noted_offer}
use Rattle.git_msg.specs.Asked.{Asked}
use Rattle.git_msg.specs.Machine.HeldRequest.{asked_of}
use Rattle.git_msg.specs.declared.requests.Request.{Request}
use Rattle.git_client.specs.Conversation.{IsConversation}
use Rattle.git_client.specs.Events.{EventValue}
use Rattle.git_client.specs.Parts.{Terms}
use Rattle.git_client.specs.Machine.Client.{History, Converses, nothing_yet, bytes_used, can_ask, caps_of, wants_input}
use Rattle.git_client.specs.Machine.Gathered.{dropped, gathered}
use Rattle.git_client.specs.Machine.RunSteps.{ReceivesBytes, ReceivesFrom, IsOneTurn, no_counts}
use Rattle.git_client.specs.Machine.Running.{Running}
use Rattle.git_client.specs.declared.client.Client.{Client}
use Rattle.git_client.specs.declared.receiving.Counts.{Counts}
use Rattle.git_client.proofs.Alongs.{counts_on}
use Rattle.git_client.proofs.ClientRuns.{anew, asks_on, begins, receives_on}
use Rattle.git_client.proofs.EventsReceived.{has_noted, is_whole, position_is}
use Rattle.git2show_lib.specs.Others.{Advertised, HasLines, IsOtherAnswer}
use Rattle.git2show_lib.specs.OtherLines.{Question, other}
use Rattle.git2show_lib.specs.Machine.CheckSteps.{ReadsOn}
use Rattle.git2show_lib.specs.Machine.CheckedStreams.{AreReceived, Comes, HasEnded, IsOffered, MayCome, Received, Receives, ReceivesAll, Turn}
use Rattle.git2show_lib.specs.Machine.CheckedStreams.{events_in, events_shown, known_of, passed_in, place_after, question_shown, questions_in, received_in}
use Rattle.git2show_lib.specs.Machine.CheckedStreams.{received_shown, turn_shown, whole_of}
use Rattle.git2show_lib.specs.Machine.Checker.{IsAsked, form_of}
use Rattle.git2show_lib.specs.Machine.Checking.{Checking, counted, silent}
use Rattle.git2show_lib.specs.Machine.JudgedRequests.{HasRead, advertised_by, limit_of, offer_of, question_of, text_of}
use Rattle.git2show_lib.specs.Machine.Noting.{AreLost, HasNotedLines, IsLost}
use Rattle.git2show_lib.specs.declared.judged_requests.JudgedRequests.{JudgedRequests}
use Rattle.git2show_lib.specs.declared.noting.Noting.{Noting}
use Rattle.git2show_lib.specs.declared.sieve.Form.{Form}
use Rattle.git2show_lib.proofs.Turns.{passed_snoc, questions_snoc, received_with, shown_with, stops_once, whole_with, with_turn}

-- ---- what an advertisement offers

-- what was offered stays so when more bytes come
pub offered_on : (t : Terms) (bytes more : List ℕ) (offer : Advertised) → IsOffered t bytes offer → IsOffered t (bytes ++ more) offer
offered_on t bytes more offer o = record {
  advertised = o.advertised;
  more = o.more ++ more;
  events = o.events;
  caps = o.caps;
  cut = ap (λ (l : List ℕ). l ++ more) o.cut ∙ append_assoc o.advertised o.more more;
  whole = o.whole;
  noted = o.noted;
  offers = o.offers;
  lines = o.lines;
}

-- a count that stops counts on
counts_more : (count more before : ℕ) → count ≡ counted before → counted (count + more) ≡ counted (before + more)
counts_more count more before is = rw is (grind arith)

-- all of a response is what came of it
comes_all : (form : Option Form) (bytes received : List ℕ) → ReceivesAll form bytes received → Receives form bytes received
comes_all None bytes received all = all
comes_all (Some form) bytes received (given, splits, passed, cut) = record {
  given = given;
  bad = [];
  rest = [];
  beyond = [];
  splits = subst (λ (gs : List Given). Splits 0 bytes gs []) (sym (append-nil given)) splits;
  passed = passed;
  cut = cut ∙ sym (append-nil received);
}

-- the advertisement alone
abbrev pub greeting_alone : List ℕ → List EventValue → Received
greeting_alone b e = record { opening = b; greeting = e; turns = []; begun = None }

pub greeting_shown : (b : List ℕ) (e : List EventValue) → received_shown (greeting_alone b e) ≡ events_shown e
greeting_shown b e = append-nil (events_shown e ++ []) ∙ append-nil (events_shown e)

pub greeting_received : {t : Terms} (b : List ℕ) (e : List EventValue) (all : Bool) → IsOneTurn e all → AreReceived t [] b e (greeting_alone b e)
greeting_received b e all one =
    record { asked_is = refl; used_is = sym (append-nil b); events_are = sym (append-nil e); one_turn = (all, one); in_turn = tt }

-- ---- the run of a client

module _ {A : Type 0} where
  -- what a client received, apart from what was read and written
  abbrev quiet : {old new : Client A} {counts : Counts} {arrived : List ℕ} {out : Flow}
      → ReceivesBytes false old new no_counts counts arrived out dropped dropped → ReceivesFrom false old new arrived [] silent silent silent silent
  quiet {counts = counts} {arrived = arrived} b = record {
    came = [];
    used = arrived;
    counts = counts;
    read = tt;
    parts = refl;
    bytes = record {
      events = b.events;
      arrives = b.arrives;
      one_turn = b.one_turn;
      has_unsent = b.has_unsent;
      counted = b.counted;
      announced = λ can. tt;
      sent = tt;
      reported = tt;
    };
  }

module _ {A : Type 0} {t : Terms} where
  -- before the first byte nothing was asked and received
  pub nothing_run : (client : Client A) → wants_input client ≡ true → Converses t nothing_yet client
      → Running false t nothing_yet [] client no_counts [] silent silent silent silent silent
  nothing_run client expected stands = begins t client None None None None None None expected stands tt

  -- a run of a client has no part in other bytes that wait
  waits_for : {h : History} {front : List (Request A)} {client : Client A} (later : List ℕ)
      → Running false t h front client no_counts [] silent silent silent silent silent
      → Running false t h front client no_counts later silent silent silent silent silent
  waits_for later r = record {
    lines = r.lines;
    packed = r.packed;
    along = r.along;
    stays = r.stays;
    in_turn = r.in_turn;
    read = tt;
    content = r.content;
    announced = r.announced;
    sent = r.sent;
    reported = r.reported;
  }

  module _ {h : History} {front : List (Request A)} {old new : Client A} {counts : Counts} {arrived before after : List ℕ}
      (runs : Running false t h front old no_counts [] silent silent silent silent silent)
      (b : ReceivesBytes false old new no_counts counts arrived (gathered before after) dropped dropped) where
    -- a client received bytes
    pub bytes_received : wants_input old ≡ true
        → Running false t (record h { used = h.used ++ arrived; events = h.events ++ b.events }) front new counts [] silent silent silent silent silent
    bytes_received expected = receives_on t false front old new arrived [] (waits_for arrived runs) expected (quiet b)

    -- which have these lines
    pub lines_received : after ≡ before ++ events_shown b.events
    lines_received = b.announced (counts_on runs.along b.arrives)

module _ {A : Type 0} {t : Terms} {limit : ℕ} where
  -- ---- the requests

  -- they were read on
  pub reads_on : {client : Client A} {old new : JudgedRequests A} {count : ℕ} {asked : List Question} {requests used responses lines : List ℕ}
      → Checking t limit client old count [] requests responses lines → ReadsOn old new asked used
      → Checking t limit client new count asked (requests ++ used) responses lines
  reads_on {new = new} {asked = asked} {requests} {used} c step = record {
    front = c.front;
    h = c.h;
    r = c.r;
    runs = c.runs;
    has_read = subst (λ (qs : List Question). HasRead (requests ++ used) (qs ++ asked) new) (append-nil (questions_in c.r.turns))
        (step.reads requests (questions_in c.r.turns ++ []) c.has_read);
    limit_is = step.limit ∙ c.limit_is;
    responses_are = c.responses_are;
    lines_are = c.lines_are;
    received = c.received;
    greeted = c.greeted;
    ended = c.ended;
    nothing_begun = c.nothing_begun;
    counts = c.counts;
    offered = rw step.advertised c.offered;
    ready = c.ready;
  }

  -- ---- the advertisement

  -- it was received whole, and a reader of requests was made of what it has
  pub advertised : {old new : Client A} {stream : JudgedRequests A} {counts : Counts} {responses lines : List ℕ} → Converses t nothing_yet old
      → wants_input old ≡ true → ReceivesBytes false old new no_counts counts responses (gathered [] lines) dropped dropped → can_ask new ≡ true
      → HasRead [] [] stream → offer_of stream ≡ noted_offer (caps_of new) t.format → HasLines responses (text_of stream) → limit_of stream ≡ limit
      → Checking t limit new stream 0 [] [] responses lines
  advertised {old} {new} {responses = responses} stands expected b ready reads offers kept limit_is =
      let runs = nothing_run old expected stands in
      let on = anew t ready (bytes_received runs b expected) in
      let now : History = record nothing_yet { used = responses; events = b.events } in
      let one : IsOneTurn b.events true = rw ready at b.one_turn in
      record {
        front = [];
        h = now;
        r = greeting_alone responses b.events;
        runs = on;
        has_read = reads;
        limit_is = limit_is;
        responses_are = sym (append-nil responses);
        lines_are = lines_received runs b ∙ sym (greeting_shown responses b.events);
        received = greeting_received responses b.events true one;
        greeted = one;
        ended = All-nil (λ turn. HasEnded t turn.question turn.bytes turn.received turn.events);
        nothing_begun = refl;
        counts = refl;
        offered = record {
          advertised = responses;
          more = [];
          events = b.events;
          caps = caps_of new;
          cut = sym (append-nil responses);
          whole = is_whole t now new on.along.stands ready;
          noted = has_noted t now new on.along.stands;
          offers = offers;
          lines = kept;
        };
        ready = ready;
      }

  -- ---- what comes for a request

  module _ {client : Client A} {stream : JudgedRequests A} {count : ℕ} {last : List Question} {requests before held : List ℕ}
      (c : Checking t limit client stream count last requests before held) where
    -- it comes in turn
    pub may_come : (turn : Turn) → Comes t turn.question turn.bytes turn.received turn.events → MayCome t c.r.opening c.r.greeting c.r.turns turn
    may_come turn comes = record {
      answered = subst (λ (asked : List Asked). IsConversation t asked (c.r.opening ++ received_in c.r.turns) (c.r.greeting ++ events_in c.r.turns))
          c.received.asked_is
          (subst (λ (used : List ℕ). IsConversation t c.h.asked used (c.r.greeting ++ events_in c.r.turns)) c.received.used_is
          (subst (λ (events : List EventValue). IsConversation t c.h.asked c.h.used events) c.received.events_are
          (is_whole t c.h client c.runs.along.stands c.ready)));
      greeted = c.greeted;
      ended = c.ended;
      comes = comes;
    }

    -- where it begins
    pub counted_place : (place : ℕ) → place ≡ counted (bytes_used client + count) → place ≡ counted (place_after c.r.opening c.r.turns)
    counted_place place is =
        is ∙ ap (λ (n : ℕ). counted (n + count)) (position_is t c.h client c.runs.along.stands)
        ∙ ap (λ (n : ℕ). counted (length c.h.used + n)) c.counts ∙ stops_once (length c.h.used) (passed_in c.r.turns) 18446744073709551615
        ∙ ap (λ (used : List ℕ). counted (length used + passed_in c.r.turns)) c.received.used_is

    -- all bytes and all lines with it
    pub bytes_with : (turn : Turn) {responses : List ℕ} → responses ≡ before ++ turn.bytes → responses ≡ whole_of (with_turn c.r turn)
    bytes_with turn are = are ∙ ap (λ (l : List ℕ). l ++ turn.bytes) c.responses_are ∙ sym (whole_with c.r turn)

    pub lines_with : (turn : Turn) {lines : List ℕ} → lines ≡ held ++ turn_shown turn → lines ≡ received_shown (with_turn c.r turn)
    lines_with turn are = are ∙ ap (λ (l : List ℕ). l ++ turn_shown turn) c.lines_are ∙ sym (shown_with c.r turn c.nothing_begun)

  -- it is whole
  turn_whole : {old new : Client A} {stream : JudgedRequests A} {count : ℕ} {requests before held responses lines : List ℕ} (turn : Turn)
      (c : Checking t limit old stream count (turn.question ∷ []) requests before held) (front : List (Request A)) (h : History)
      → Running false t h front new no_counts [] silent silent silent silent silent → can_ask new ≡ true → h.asked ≡ c.h.asked ++ known_of turn.question
      → h.used ≡ c.h.used ++ turn.received → h.events ≡ c.h.events ++ turn.events → Comes t turn.question turn.bytes turn.received turn.events
      → HasEnded t turn.question turn.bytes turn.received turn.events → responses ≡ before ++ turn.bytes → lines ≡ held ++ turn_shown turn
      → Checking t limit new stream (counted (count + (length turn.bytes - length turn.received))) [] requests responses lines
  turn_whole {stream = stream} {count} {requests} turn c front h runs ready asked used events comes ended bytes shown =
      let P : Turn → Type 0 = λ x. HasEnded t x.question x.bytes x.received x.events in
      record {
        front = front;
        h = h;
        r = with_turn c.r turn;
        runs = runs;
        has_read = subst (λ (qs : List Question). HasRead requests qs stream)
            (sym (append-nil (questions_in (c.r.turns ++ turn ∷ [])) ∙ questions_snoc c.r.turns turn)) c.has_read;
        limit_is = c.limit_is;
        responses_are = bytes_with c turn bytes;
        lines_are = lines_with c turn shown;
        received = rw (asked, used, events) (received_with c.r turn c.received (may_come c turn comes));
        greeted = c.greeted;
        ended = All-append P c.r.turns (turn ∷ []) c.ended (All-cons P turn [] ended (All-nil P));
        nothing_begun = refl;
        counts = counts_more count (length turn.bytes - length turn.received) (passed_in c.r.turns) c.counts
            ∙ ap counted (sym (passed_snoc c.r.turns turn));
        offered = rw used (offered_on t c.h.used turn.received (advertised_by stream) c.offered);
        ready = ready;
      }

  -- a request was asked
  module _ {requests responses lines used : List ℕ} {middle : Client A} {stream : JudgedRequests A} {passed : ℕ}
      (a : IsAsked t limit requests responses lines used middle stream passed) where
    abbrev pub front_of : List (Request A)
    front_of = a.checking.front ++ a.judged.request ∷ []

    pub runs_asked : Running false t (record a.checking.h {
      asked = a.checking.h.asked ++ asked_of a.judged.request ∷ [];
      given = a.checking.h.given ++ a.asks.given;
    }) front_of middle no_counts [] silent silent silent silent silent
    runs_asked = asks_on t false a.checking.front a.old middle a.judged.request no_counts [] a.checking.runs a.checking.ready a.asks

    -- where the response begins
    pub place_asked : bytes_used middle ≡ length a.checking.h.used
    place_asked = position_is t _ middle runs_asked.along.stands

    pub counted_asked : (start : ℕ) → start ≡ bytes_used middle
        → counted (start + passed) ≡ counted (place_after a.checking.r.opening a.checking.r.turns)
    counted_asked start is =
        counted_place a.checking (counted (start + passed)) (ap (λ (n : ℕ). counted (n + passed)) (
        is ∙ place_asked ∙ sym (position_is t a.checking.h a.old a.checking.runs.along.stands)
        ))

    -- and of the response these bytes were received
    module _ {new : Client A} {counts : Counts} {arrived after : List ℕ}
        (b : ReceivesBytes false middle new no_counts counts arrived (gathered lines after) dropped dropped) where
      -- what comes for it
      abbrev pub turn_of : Turn
      turn_of = record { question = question_of a.judged; bytes = used; received = arrived; events = b.events }

      abbrev pub history_of : History
      history_of = record a.checking.h {
        asked = a.checking.h.asked ++ asked_of a.judged.request ∷ [];
        given = a.checking.h.given ++ a.asks.given;
        used = a.checking.h.used ++ arrived;
        events = a.checking.h.events ++ b.events;
      }

      pub runs_of : Running false t history_of front_of new counts [] silent silent silent silent silent
      runs_of = bytes_received runs_asked b a.expected

      pub shown_of : after ≡ a.held ++ turn_shown turn_of
      shown_of =
          lines_received runs_asked b ∙ ap (λ (l : List ℕ). l ++ events_shown b.events) a.lines_are
          ∙ append_assoc a.held (question_shown (question_of a.judged)) (events_shown b.events)

      -- it is whole
      pub response_received : can_ask new ≡ true → ReceivesAll (form_of t limit a) used arrived
          → Checking t limit new stream (counted (passed + (length used - length arrived))) [] requests responses after
      response_received ready all =
          let one : IsOneTurn b.events true = rw ready at b.one_turn in
          turn_whole turn_of a.checking front_of history_of (anew t ready runs_of) ready refl refl refl
          (comes_all (form_of t limit a) used arrived all, (true, one)) (all, one) a.responses_are shown_of

  -- a request for another command was read, and the answer to it passed whole
  pub answer_passed : {client : Client A} {stream : JudgedRequests A} {count : ℕ} {named requests before held responses lines : List ℕ}
      (used : List ℕ) → Checking t limit client stream count (other named ∷ []) requests before held → IsOtherAnswer t.ending used
      → responses ≡ before ++ used → lines ≡ held ++ named
      → Checking t limit client stream (counted (count + length used)) [] requests responses lines
  answer_passed {client} {stream} {count} {named} {requests} {held = held} {responses} {lines} used c answer bytes shown =
      let turn : Turn = record { question = other named; bytes = used; received = []; events = [] } in
      let all : length used - 0 ≡ length used = omega arith in
      subst (λ (n : ℕ). Checking t limit client stream (counted (count + n)) [] requests responses lines) all
      (turn_whole turn c c.front c.h c.runs c.ready (sym (append-nil c.h.asked)) (sym (append-nil c.h.used)) (sym (append-nil c.h.events))
      (answer, refl, refl) tt bytes (shown ∙ ap (λ (l : List ℕ). held ++ l) (sym (append-nil named))))

module _ {A : Type 0} where
  -- what was noted is what the bytes have
  pub lines_noted : {notes : Noting A} {used text : List ℕ} → HasNotedLines used notes → (notes.lost ≡ None) × (text ≡ notes.text.items) → HasLines used text
  lines_noted noted (sound, same) =
      let n = noted.notes sound in
      record { given = n.given; rest = n.rest; splits = n.reads.splits; text_is = same ∙ n.text_is }

  -- why a line was not kept
  pub why_lost : {notes : Noting A} {used : List ℕ} {kind : Kind} → HasNotedLines used notes → notes.lost ≡ Some kind → IsLost kind
  why_lost noted is = subst AreLost is noted.why

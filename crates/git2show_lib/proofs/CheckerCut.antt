-- What a machine that judges a conversation found so far, in each turn: and what that means where the conversation is cut off, since a write of its
-- lines failed, or no more bytes came of the stream that it needs.
use Rattle.std.proofs.Common.{arith, ◌≡◌, ◌⊎◌, inl, inr, ℕ, Bool, true, false, List, [], ◌∷◌, ◌++◌, length, Option, Some, None, Result, Err}
use Rattle.std.proofs.Common.{refl, sym, subst, ap, ◌∙◌, append-nil}
use Rattle.git_pkt.specs.Splits.{Given}
use Rattle.git_pkt.specs.Streams.{IsTimely}
use Rattle.git_pkt.specs.declared.fault.Fault.{Fault}
use Rattle.git_pkt.specs.declared.reader.PacketReader.{PacketReader}
use Rattle.git_pkt.proofs.KnownRest.{sound_rest}
use Rattle.git_pkt.proofs.Spelling.{none_begins_nothing}
use Rattle.git_msg.specs.Advertisement.{noted_offer}
use Rattle.git_msg.specs.Requests.{IsStop}
use Rattle.git_msg.specs.declared.requests.Request.{Request}
use Rattle.git_client.specs.Parts.{Terms}
use Rattle.git_client.specs.Machine.Client.{History, Converses, can_ask, caps_of, fault_of, nothing_yet, wants_input}
use Rattle.git_client.specs.Machine.Gathered.{dropped, gathered}
use Rattle.git_client.specs.Machine.RunSteps.{ReceivesBytes, no_counts}
use Rattle.git_client.specs.Machine.Running.{Running}
use Rattle.git_client.specs.declared.client.Client.{Client}
use Rattle.git_client.specs.declared.receiving.Counts.{Counts}
use Rattle.git_client.proofs.AskedInTurn.{commands_advertised}
use Rattle.git_client.proofs.ClientRuns.{ran}
use Rattle.git_client.proofs.EventsReceived.{awaits_more, has_events, is_whole}
use Rattle.git_client.proofs.Faults.{first_fault}
use Rattle.git2show_lib.specs.Others.{Advertised, judged_of}
use Rattle.git2show_lib.specs.OtherLines.{Question, other}
use Rattle.git2show_lib.specs.Machine.CheckFaults.{Standing}
use Rattle.git2show_lib.specs.Machine.CheckSteps.{HasReadWhole}
use Rattle.git2show_lib.specs.Machine.CheckedStreams.{AreAllAsked, AreAnswered, AreOver, AreReceived, AreUnread, Begun, Checked, EndsAs, Found, IsCutOff}
use Rattle.git2show_lib.specs.Machine.CheckedStreams.{IsOffered, IsOtherExpected, IsSieved, IsSoFar, Received, Receives, moved, passed_in}
use Rattle.git2show_lib.specs.Machine.CheckedStreams.{bytes_begun, events_shown, last_form, lines_begun, questions_in, received_shown, turns_shown, whole_of}
use Rattle.git2show_lib.specs.Machine.Checker.{IsAsked, IsEnding, IsOpening, IsPassing, IsReading, IsReceiving, IsSieving, form_of}
use Rattle.git2show_lib.specs.Machine.Checking.{Checking, counted, silent}
use Rattle.git2show_lib.specs.Machine.JudgedRequests.{AreAskedBy, advertised_by, limit_of, text_of}
use Rattle.git2show_lib.specs.declared.checking.CheckFault.{CheckFault}
use Rattle.git2show_lib.specs.declared.checking.CheckFault.TheVariants.{Responses, ReadFault, WriteFault, ReadLimit}
use Rattle.git2show_lib.specs.declared.judged_requests.JudgedRequests.{JudgedRequests}
use Rattle.git2show_lib.specs.declared.noting.Noting.{Noting}
use Rattle.git2show_lib.specs.declared.sieve.Form.{Form}
use Rattle.git2show_lib.specs.declared.sieve.Sieve.{Sieve}
use Rattle.git2show_lib.proofs.CheckBroken.{Finds, broken_of, ends_so}
use Rattle.git2show_lib.proofs.CheckRuns.{bytes_received, bytes_with, front_of, greeting_alone, greeting_received, greeting_shown, history_of, lines_received}
use Rattle.git2show_lib.proofs.CheckRuns.{lines_with, may_come, nothing_run, offered_on, runs_of, shown_of, turn_of}
use Rattle.git2show_lib.proofs.JudgedReadings.{asked_so_far, begun_so_far}
use Rattle.git2show_lib.proofs.Turns.{form_snoc, moved_by_count, passed_snoc, questions_snoc, received_with, with_turn}

-- a result that states that a conversation is cut off, with this of the standing of its streams
abbrev pub CutsOff : (A : Type 0) → Terms → ℕ → Result (Unit {0}) CheckFault → Standing → Standing → (of_requests of_responses : Type 0) → Type 0
CutsOff A t limit result requests responses of_requests of_responses =
    (by : Advertised) (unused : List ℕ) (h : History) (r : Received) (found : Found)
    → IsCutOff t by limit of_requests of_responses requests responses unused h r found → EndsAs A t by limit result requests responses unused h r found

module _ (A : Type 0) (t : Terms) (limit : ℕ) (requests responses : Standing) where
  -- a read failed
  pub cut_by_fault : CutsOff A t limit (Err ReadFault) requests responses (requests.failed ≡ true) (responses.failed ≡ true)
  cut_by_fault by unused h r found cut = cut

  -- or one more would be needed than was allowed
  pub cut_by_limit : CutsOff A t limit (Err ReadLimit) requests responses (Unit {0}) (responses.ended ≡ false)
  cut_by_limit by unused h r found cut = cut

-- ---- what was found so far

-- what is found in these requests before the first
abbrev pub nothing_found : Found
nothing_found = record { used = []; unused = []; asked = []; left = []; rest = [] }

-- no bytes ask for nothing
pub none_asked : (offer : Advertised) (limit : ℕ) → AreAskedBy offer limit [] [] [] []
none_asked offer limit = record { packets = []; splits = record { spelled = refl; ends = none_begins_nothing }; requests = refl }

-- of these requests all were used but the last bytes, and after the last whole one this comes
abbrev pub found_with : (requests unused : List ℕ) → List Question → List Given → List ℕ → Found
found_with requests unused asked left rest = record { used = requests; unused = unused; asked = asked; left = left; rest = rest }

-- no further request comes, whatever comes after the bytes that were used
over_with : (text : List ℕ) (ended : Bool) (requests more : List ℕ) (asked : List Question) (left : List Given) (rest : List ℕ)
    → (ended ≡ true → more ≡ []) → (rest ≡ []) × (IsStop (judged_of text left) ⊎ ((left ≡ []) × (ended ≡ true)))
    → AreOver text ended (found_with requests more asked left rest)
over_with text ended requests more asked left rest none (no_rest, inl stop) = (no_rest, inl stop)
over_with text ended requests more asked left rest none (no_rest, inr (nothing, closed)) = (no_rest, inr (nothing, none closed, closed))

module _ {A : Type 0} {t : Terms} {limit : ℕ} where
  -- what the run of a client and the requests mean for a check
  pub finds_so : (h : History) (by : Advertised) (r : Received) (found : Found) (front : List (Request A)) (client : Client A) {counts : Counts}
      {responses lines unused : List ℕ} → Running false t h front client counts [] silent silent silent silent silent
      → AreReceived t h.asked h.used h.events r → IsOffered t h.used by ⊎ AreUnread found
      → AreAskedBy by limit found.used found.asked found.left found.rest → responses ≡ whole_of r ++ bytes_begun r.begun → lines ≡ received_shown r
      → Finds t limit ((found.used ++ found.unused) ∷ (responses ++ unused) ∷ []) (lines ∷ []) unused h by r found
  finds_so h by r found front client {unused = unused} runs received offered asks arrived shown = let at = ran runs in record {
    were_read = ap (λ (l : List ℕ). (found.used ++ found.unused) ∷ (l ++ unused) ∷ []) arrived;
    announced = ap (λ (l : List ℕ). l ∷ []) shown;
    received = received;
    arrived = has_events t h client at.stands;
    may_be = commands_advertised t h.asked h.used h.events front at.in_turn;
    in_turn = at.in_turn.in_turn;
    offered = offered;
    asks = asks;
  }

-- In the advertisement or in a response, which comes in this form, these bytes of both streams were used or read, and this was found: all that was
-- read of the requests was asked.
pub record Within {A : Type 0} (t : Terms) (limit : ℕ) (form : Option Form) (client : Client A) (passed : ℕ) (requests responses lines : List ℕ)
    : Type 0 where
  pub h : History
  pub by : Advertised
  pub r : Received
  pub found : Found
  pub finds : (unused : List ℕ) → Finds t limit (requests ∷ (responses ++ unused) ∷ []) (lines ∷ []) unused h by r found
  pub stands : Converses t h client
  pub all_asked : AreAllAsked r found
  pub form_is : last_form t.format r.turns ≡ form
  pub count : form ≡ None → passed ≡ counted (passed_in r.turns)

-- what a client receives of a response that comes as it knows it, or of one that is sieved
pub receives_plain : (form : Option Form) (bytes : List ℕ) → form ≡ None → Receives form bytes bytes
receives_plain form bytes plain = subst (λ (f : Option Form). Receives f bytes bytes) (sym plain) refl

pub receives_sieved : (form : Option Form) (own : Form) (bytes received : List ℕ) → form ≡ Some own → IsSieved own bytes received
    → Receives form bytes received
receives_sieved form own bytes received is s = subst (λ (f : Option Form). Receives f bytes received) (sym is) s

-- in an answer that passes, what came of it so far
abbrev pub begun_of : (named used : List ℕ) → Begun
begun_of named used = record { lines = named; bytes = used }

module _ {A : Type 0} {t : Terms} {limit : ℕ} where
  -- the advertisement is received
  abbrev pub opening_within : {first client : Client A} {counts : Counts} {responses lines : List ℕ} → Converses t nothing_yet first
      → wants_input first ≡ true → ReceivesBytes false first client no_counts counts responses (gathered [] lines) dropped dropped
      → Within t limit None client 0 [] responses lines
  opening_within {first} {client} {responses = responses} stands expected b =
      let runs = nothing_run first expected stands in
      let on = bytes_received runs b expected in
      let by : Advertised = record { offer = noted_offer (caps_of client) t.format; text = [] } in
      let r = greeting_alone responses b.events in
      record {
        h = record nothing_yet { used = responses; events = b.events };
        by = by;
        r = r;
        found = nothing_found;
        finds = λ unused. finds_so _ by r nothing_found [] client on (greeting_received responses b.events (can_ask client) b.one_turn)
            (inr (record { nothing_used = refl; nothing_waits = refl })) (none_asked by limit)
            (sym (append-nil responses) ∙ sym (append-nil (responses ++ []))) (lines_received runs b ∙ sym (greeting_shown responses b.events));
        stands = on.along.stands;
        all_asked = record { asked = refl; nothing_left = refl; no_rest = refl; nothing_begun = refl };
        form_is = refl;
        count = λ plain. refl;
      }

  -- a request was asked, and of the response to it these bytes were received
  abbrev pub response_within : {requests responses lines used : List ℕ} {middle client : Client A} {stream : JudgedRequests A} {passed : ℕ}
      {counts : Counts} {arrived after : List ℕ} (more : List ℕ) (a : IsAsked t limit requests responses lines used middle stream passed)
      → ReceivesBytes false middle client no_counts counts arrived (gathered lines after) dropped dropped → Receives (form_of t limit a) used arrived
      → Within t limit (form_of t limit a) client passed (requests ++ more) responses after
  response_within {requests} {used = used} {client = client} {stream} {passed} {arrived = arrived} more a b receives =
      let c = a.checking in
      let turn = turn_of a b in
      let r = with_turn c.r turn in
      let asked = questions_in c.r.turns ++ turn.question ∷ [] in
      let (left, rest, are_asked, nothing) = a.read.alone requests asked c.has_read in
      let found = found_with requests more asked left rest in
      record {
        h = history_of a b;
        by = advertised_by stream;
        r = r;
        found = found;
        finds = λ unused. finds_so (history_of a b) (advertised_by stream) r found (front_of a) client (runs_of a b)
            (received_with c.r turn c.received (may_come c turn (receives, (can_ask client, b.one_turn))))
            (inl (offered_on t c.h.used arrived (advertised_by stream) c.offered)) (rw c.limit_is at are_asked)
            (bytes_with c turn a.responses_are ∙ sym (append-nil (whole_of r))) (lines_with c turn (shown_of a b));
        stands = (runs_of a b).along.stands;
        all_asked = record {
          asked = sym (questions_snoc c.r.turns turn);
          nothing_left = nothing.0;
          no_rest = nothing.1;
          nothing_begun = refl;
        };
        form_is = form_snoc t.format c.r.turns turn;
        count = λ plain.
            let same : arrived ≡ used = subst (λ (f : Option Form). Receives f used arrived) plain receives in
            c.counts ∙ ap counted (omega (arith, passed_snoc c.r.turns turn, ap length same));
      }

  module _ {form : Option Form} {client : Client A} {passed : ℕ} {requests responses lines : List ℕ}
      (w : Within t limit form client passed requests responses lines) where
    -- a write failed there
    broken_within : (of_requests of_responses : Standing) (unused : List ℕ)
        → Checked A t limit (Err WriteFault) of_requests of_responses (requests ∷ (responses ++ unused) ∷ []) (lines ∷ [])
    broken_within of_requests of_responses unused = ends_so (w.finds unused) (inl w.all_asked)

    -- no more bytes came
    cut_within : (result : Result (Unit {0}) CheckFault) (of_requests of_responses : Standing) {Q R : Type 0}
        → CutsOff A t limit result of_requests of_responses Q R → R → wants_input client ≡ true → IsSoFar t w.r form
        → Checked A t limit result of_requests of_responses (requests ∷ (responses ++ []) ∷ []) (lines ∷ [])
    cut_within result of_requests of_responses cuts shown waits so_far =
        ends_so (w.finds []) (cuts w.by [] w.h w.r w.found (inl (
          inl (record {
            all_asked = w.all_asked;
            so_far = subst (λ (f : Option Form). IsSoFar t w.r f) (sym w.form_is) so_far;
            all_used = refl;
            goes_on = awaits_more t w.h client w.stands waits;
          }),
          shown,
        )))

    -- the client refuses what came
    pub refused_within : form ≡ None → (of_requests of_responses : Standing) (fault : Fault) → fault_of client ≡ Some fault
        → (unused : List ℕ) → IsTimely fault.kind of_responses.ended unused
        → Checked A t limit (Err (Responses (moved passed fault))) of_requests of_responses (requests ∷ (responses ++ unused) ∷ []) (lines ∷ [])
    refused_within plain of_requests of_responses fault failed unused timely =
        ends_so (w.finds unused) (inl (record {
          own = fault;
          is = inl (record {
            all_asked = w.all_asked;
            plain = w.form_is ∙ plain;
            malformed = record { first = first_fault t w.h client fault w.stands failed; timely = timely };
          });
          reported = moved_by_count passed (passed_in w.r.turns) fault (w.count plain);
        }))

  -- ---- between two requests, or in an answer that passes

  module _ {client : Client A} {stream : JudgedRequests A} {count : ℕ} {last : List Question} {requests responses lines : List ℕ}
      (c : Checking t limit client stream count last requests responses lines) where
    -- what the requests ask
    abbrev pub asked_in : List Question
    asked_in = questions_in c.r.turns ++ last

    -- what was received, with such an answer
    abbrev pub with_answer : Option Begun → Received
    with_answer begun = record { opening = c.r.opening; greeting = c.r.greeting; turns = c.r.turns; begun = begun }

    pub finds_between : (begun : Option Begun) (more unused : List ℕ) {all shown : List ℕ} → all ≡ responses ++ bytes_begun begun
        → shown ≡ lines ++ lines_begun begun → (left : List Given) (rest : List ℕ)
        → AreAskedBy (advertised_by stream) (limit_of stream) requests asked_in left rest
        → Finds t limit ((requests ++ more) ∷ (all ++ unused) ∷ []) (shown ∷ []) unused c.h (advertised_by stream) (with_answer begun)
        (found_with requests more asked_in left rest)
    finds_between begun more unused bytes_are lines_are left rest are_asked =
        finds_so c.h (advertised_by stream) (with_answer begun) (found_with requests more asked_in left rest) c.front client c.runs (record {
          asked_is = c.received.asked_is;
          used_is = c.received.used_is;
          events_are = c.received.events_are;
          one_turn = c.received.one_turn;
          in_turn = c.received.in_turn;
        }) (inl c.offered) (rw c.limit_is at are_asked) (bytes_are ∙ ap (λ (l : List ℕ). l ++ bytes_begun begun) c.responses_are)
        (lines_are ∙ ap (λ (l : List ℕ). l ++ lines_begun begun) (
        c.lines_are ∙ ap (λ (b : Option Begun). (events_shown c.r.greeting ++ turns_shown c.r.turns) ++ lines_begun b) c.nothing_begun
        ∙ append-nil (events_shown c.r.greeting ++ turns_shown c.r.turns)
        ))

    -- where no such answer is begun
    pub finds_here : (more unused : List ℕ) (left : List Given) (rest : List ℕ)
        → AreAskedBy (advertised_by stream) (limit_of stream) requests asked_in left rest
        → Finds t limit ((requests ++ more) ∷ (responses ++ unused) ∷ []) (lines ∷ []) unused c.h (advertised_by stream) (with_answer None)
        (found_with requests more asked_in left rest)
    finds_here more unused = finds_between None more unused (sym (append-nil responses)) (sym (append-nil lines))

  -- all that was asked was answered
  pub answered_so_far : {client : Client A} {stream : JudgedRequests A} {count : ℕ} {requests responses lines : List ℕ}
      (c : Checking t limit client stream count [] requests responses lines) (more : List ℕ) (left : List Given) (rest : List ℕ)
      → AreAnswered t c.h (with_answer c None) (found_with requests more (asked_in c) left rest)
  answered_so_far {client} c more left rest = record {
    asked = append-nil (questions_in c.r.turns);
    ended = c.ended;
    nothing_begun = refl;
    whole = is_whole t c.h client c.runs.along.stands c.ready;
  }

  -- no further request came
  pub found_ending : {requests_ended : Bool} {requests responses lines : List ℕ} {client : Client A} {stream : JudgedRequests A} {passed : ℕ}
      (more unused : List ℕ) (e : IsEnding t limit requests_ended requests responses lines client stream passed) → (requests_ended ≡ true → more ≡ [])
      → (found : Found)
      × Finds t limit ((requests ++ more) ∷ (responses ++ unused) ∷ []) (lines ∷ []) unused e.checking.h (advertised_by stream)
      (with_answer e.checking None) found
      × AreAnswered t e.checking.h (with_answer e.checking None) found × AreOver (text_of stream) requests_ended found
  found_ending {requests_ended} {requests} {stream = stream} more unused e none =
      let c = e.checking in
      let (left, rest, are_asked, over) = e.over requests (asked_in c) c.has_read in (
        found_with requests more (asked_in c) left rest,
        finds_here c more unused left rest are_asked,
        answered_so_far c more left rest,
        over_with (text_of stream) requests_ended requests more (asked_in c) left rest none over,
      )

  -- in an answer that passes
  pub found_passing : (more unused : List ℕ) {requests before held responses lines named : List ℕ} {client : Client A} {stream : JudgedRequests A}
      {passed : ℕ} (used : List ℕ) (c : Checking t limit client stream passed (other named ∷ []) requests before held) → HasReadWhole stream
      → responses ≡ before ++ used → lines ≡ held ++ named
      → (found : Found)
      × Finds t limit ((requests ++ more) ∷ (responses ++ unused) ∷ []) (lines ∷ []) unused c.h (advertised_by stream)
      (with_answer c (Some (begun_of named used))) found
      × IsOtherExpected t c.h (with_answer c (Some (begun_of named used))) (begun_of named used) found
  found_passing more unused {requests} {named = named} {client} used c read bytes_are lines_are =
      let (left, rest, are_asked, nothing) = read.alone requests (asked_in c) c.has_read in (
        found_with requests more (asked_in c) left rest,
        finds_between c (Some (begun_of named used)) more unused bytes_are lines_are left rest are_asked,
        record {
          asked = refl;
          is_begun = refl;
          nothing_left = nothing.0;
          no_rest = nothing.1;
          whole = is_whole t c.h client c.runs.along.stands c.ready;
        },
      )

  -- ---- a write failed

  module _ (of_requests of_responses : Standing) where
    -- in the advertisement
    pub opening_broken : (unused : List ℕ) {responses lines : List ℕ} {client : Client A} {counts : Counts} {notes : Noting A}
        → IsOpening t limit responses lines client counts notes
        → Checked A t limit (Err WriteFault) of_requests of_responses ([] ∷ (responses ++ unused) ∷ []) (lines ∷ [])
    opening_broken unused o = broken_within (opening_within o.anew o.first_waits o.bytes) of_requests of_responses unused

    module _ (more unused : List ℕ) {requests responses lines : List ℕ} {client : Client A} {stream : JudgedRequests A} {passed : ℕ} where
      -- before a request, in one, or after the last
      pub between_broken : Checking t limit client stream passed [] requests responses lines
          → Checked A t limit (Err WriteFault) of_requests of_responses ((requests ++ more) ∷ (responses ++ unused) ∷ []) (lines ∷ [])
      between_broken c =
          broken_of (finds_here c more unused c.has_read.left c.has_read.rest (asked_so_far c.has_read)) of_requests of_responses (inl ([], refl, refl))

      -- in a response
      pub receiving_broken : {counts : Counts} → IsReceiving t limit requests responses lines client counts stream passed
          → Checked A t limit (Err WriteFault) of_requests of_responses ((requests ++ more) ∷ (responses ++ unused) ∷ []) (lines ∷ [])
      receiving_broken r =
          broken_within (response_within more r.asked r.bytes (receives_plain (form_of t limit r.asked) r.used r.plain)) of_requests of_responses unused

      -- that is sieved
      pub sieving_broken : {left : List ℕ} {counts : Counts} {start : ℕ} {sieve : Sieve} {packets : PacketReader} {offset : ℕ}
          → IsSieving t limit requests responses lines left client counts stream passed start sieve packets offset
          → Checked A t limit (Err WriteFault) of_requests of_responses ((requests ++ more) ∷ (responses ++ unused) ∷ []) (lines ∷ [])
      sieving_broken {sieve = sieve} s =
          broken_within (response_within more s.asked s.bytes
          (receives_sieved (form_of t limit s.asked) sieve.form s.used s.received s.form_is s.sieves)) of_requests of_responses unused

      -- in an answer that passes
      pub passing_broken : {packets : PacketReader} → IsPassing t limit requests responses lines client stream passed packets
          → Checked A t limit (Err WriteFault) of_requests of_responses ((requests ++ more) ∷ (responses ++ unused) ∷ []) (lines ∷ [])
      passing_broken p =
          let (found, finds, expected) = found_passing more unused p.used p.checking p.read p.responses_are p.shown in
          broken_of finds of_requests of_responses (inr (begun_of p.named p.used, expected))

  -- ---- no more bytes came

  module _ (result : Result (Unit {0}) CheckFault) (of_requests of_responses : Standing) {Q R : Type 0}
      (cuts : CutsOff A t limit result of_requests of_responses Q R) where
    -- in the advertisement
    pub opening_cut : R → {responses lines : List ℕ} {client : Client A} {counts : Counts} {notes : Noting A}
        → IsOpening t limit responses lines client counts notes
        → Checked A t limit result of_requests of_responses ([] ∷ (responses ++ []) ∷ []) (lines ∷ [])
    opening_cut shown o = cut_within (opening_within o.anew o.first_waits o.bytes) result of_requests of_responses cuts shown o.waits tt

    module _ {requests responses lines : List ℕ} {client : Client A} {stream : JudgedRequests A} {passed : ℕ} where
      -- before a request, or in one
      pub reading_cut : Q → of_requests.ended ≡ false → of_responses.ended ≡ false → (unused : List ℕ)
          → IsReading t limit requests responses lines client stream passed
          → Checked A t limit result of_requests of_responses ((requests ++ []) ∷ (responses ++ unused) ∷ []) (lines ∷ [])
      reading_cut shown can_come more_can_come unused q =
          let c = q.checking in
          let h = c.has_read in
          let (begun, still_open) = begun_so_far h q.ready in
          ends_so (finds_here c [] unused h.left h.rest (asked_so_far h)) (cuts (advertised_by stream) unused c.h (with_answer c None) _ (inr (inl (
            record {
              answered = answered_so_far c [] h.left h.rest;
              begun = rw c.limit_is at begun;
              still_open = still_open;
              all_used = refl;
              can_come = can_come;
              more_can_come = more_can_come;
            },
            shown,
          ))))

      module _ (shown : R) (more : List ℕ) where
        -- in a response
        pub receiving_cut : {counts : Counts} → IsReceiving t limit requests responses lines client counts stream passed
            → Checked A t limit result of_requests of_responses ((requests ++ more) ∷ (responses ++ []) ∷ []) (lines ∷ [])
        receiving_cut r =
            let w = response_within more r.asked r.bytes (receives_plain (form_of t limit r.asked) r.used r.plain) in
            cut_within w result of_requests of_responses cuts shown r.waits (subst (λ (f : Option Form). IsSoFar t w.r f) (sym r.plain) tt)

        -- that is sieved, where nothing is left for the client
        pub sieving_cut : {left : List ℕ} {counts : Counts} {start : ℕ} {sieve : Sieve} {packets : PacketReader} {offset : ℕ} → left ≡ []
            → IsSieving t limit requests responses lines left client counts stream passed start sieve packets offset
            → Checked A t limit result of_requests of_responses ((requests ++ more) ∷ (responses ++ []) ∷ []) (lines ∷ [])
        sieving_cut {sieve = sieve} {packets} none s =
            let w = response_within more s.asked s.bytes
            (receives_sieved (form_of t limit s.asked) sieve.form s.used s.received s.form_is s.sieves) in
            cut_within w result of_requests of_responses cuts shown s.waits (subst (λ (f : Option Form). IsSoFar t w.r f) (sym s.form_is) (record {
              earlier = _;
              last = _;
              turns_are = refl;
              form_is = s.form_is;
              s = s.sieves;
              none_bad = s.none_bad;
              all = s.left_is ∙ none;
              still_open = (sound_rest packets 0 s.used s.sieves.given s.sieves.rest s.sound s.reads).1;
            }))

        -- in an answer that passes
        pub passing_cut : {packets : PacketReader} → IsPassing t limit requests responses lines client stream passed packets
            → Checked A t limit result of_requests of_responses ((requests ++ more) ∷ (responses ++ []) ∷ []) (lines ∷ [])
        passing_cut {packets} p =
            let (found, finds, expected) = found_passing more [] p.used p.checking p.read p.responses_are p.shown in
            ends_so finds (cuts (advertised_by stream) [] p.checking.h (with_answer p.checking (Some (begun_of p.named p.used))) found (inl (
              inr (record {
                begun = begun_of p.named p.used;
                expected = expected;
                all_used = refl;
                rest = p.passes.rest;
                begins = record { given = p.passes.given; splits = p.passes.reads.splits; goes_on = p.passes.goes_on };
                still_open = (sound_rest packets 0 p.used p.passes.given p.passes.rest p.sound p.passes.reads).1;
              }),
              shown,
            )))

        -- after the last request
        pub ending_cut : {requests_ended : Bool} → of_requests.ended ≡ requests_ended → (requests_ended ≡ true → more ≡ [])
            → IsEnding t limit requests_ended requests responses lines client stream passed
            → Checked A t limit result of_requests of_responses ((requests ++ more) ∷ (responses ++ []) ∷ []) (lines ∷ [])
        ending_cut same none e =
            let (found, finds, answered, over) = found_ending more [] e none in
            ends_so finds (cuts (advertised_by stream) [] e.checking.h (with_answer e.checking None) found (inr (inr (
              record {
                answered = answered;
                over = subst (λ (ended : Bool). AreOver (text_of stream) ended found) (sym same) over;
                nothing_left = refl;
              },
              shown,
            ))))

-- A machine that judges a conversation reads its requests.
use Rattle.std.proofs.Common.{arith, ◌≡◌, ◌≢◌, inl, inr, ℕ, Bool, true, false, List, [], ◌∷◌, ◌++◌, take, None, Some}
use Rattle.std.proofs.Common.{Result, Ok, Err, refl, sym, subst, ap, ◌∙◌, append_assoc, append-nil, length-append}
use Rattle.git_pkt.specs.Streams.{IsTimely}
use Rattle.git_pkt.specs.declared.fault.Fault.{Fault}
use Rattle.git_pkt.specs.declared.fault.Kind.TheVariants.{Truncated}
use Rattle.git_pkt.specs.Machine.PacketReader.{Reads, fault_of, passes_of}
use Rattle.git_pkt.specs.declared.reader.PacketReader.{PacketReader}
use Rattle.git_pkt.proofs.EngineLemmas.{timely}
use Rattle.git_pkt.proofs.Spelling.{none_begins_nothing}
use Rattle.git_msg.specs.Machine.HeldRequest.{command_of, format_of}
use Rattle.git_msg.specs.declared.arguments.Command.{Command}
use Rattle.git_client.specs.Parts.{Terms}
use Rattle.git_client.specs.Machine.Client.{bytes_used, wants_input}
use Rattle.git_client.specs.Machine.Gathered.{dropped, gathered}
use Rattle.git_client.specs.Machine.RunSteps.{AsksNext, AsksNot, ReceivesBytes, no_counts}
use Rattle.git_client.specs.Transcript.{asked_line}
use Rattle.git_client.specs.declared.client.Client.{Client}
use Rattle.git_client.specs.declared.receiving.Counts.{Counts}
use Rattle.git_client.proofs.ClientRuns.{refused_next}
use Rattle.git_client.proofs.EventsReceived.{position_is}
use Rattle.git_client.proofs.ReceivedBytes.{nothing_received}
use Rattle.git2show_lib.specs.OtherLines.{Question, form_asked, other}
use Rattle.git2show_lib.specs.Machine.CheckSteps.{HasReadWhole, ReadsNoMore, ReadsOn}
use Rattle.git2show_lib.specs.Machine.CheckedStreams.{Checked, moved, passed_in, question_shown}
use Rattle.git2show_lib.specs.Machine.Checker.{IsAsked, IsEnding, IsOver, IsPassing, IsReceiving, IsSieving, unfailed}
use Rattle.git2show_lib.specs.Machine.Checking.{Checking}
use Rattle.git2show_lib.specs.Machine.JudgedRequests.{Closes, Feeds, IsOnward, asked_by, fault_of as requests_fault, offer_of, question_of}
use Rattle.git2show_lib.specs.Machine.KeptLines.{noted_in}
use Rattle.git2show_lib.specs.declared.checking.CheckFault.{CheckFault}
use Rattle.git2show_lib.specs.declared.checking.CheckFault.TheVariants.{Requests, Responses}
use Rattle.git2show_lib.specs.declared.judged_requests.Judged.{Judged}
use Rattle.git2show_lib.specs.declared.judged_requests.JudgedGot.{JudgedGot}
use Rattle.git2show_lib.specs.declared.judged_requests.JudgedGot.TheVariants.{Stop}
use Rattle.git2show_lib.specs.declared.judged_requests.JudgedRead.{JudgedRead}
use Rattle.git2show_lib.specs.declared.judged_requests.JudgedRequests.{JudgedRequests}
use Rattle.git2show_lib.specs.declared.sieve.Sieve.{Sieve}
use Rattle.git2show_lib.specs.declared.sieve.Spot.TheVariants.{Header}
use Rattle.git2show_lib.proofs.CheckBroken.{ends_so}
use Rattle.git2show_lib.proofs.CheckRuns.{reads_on}
use Rattle.git2show_lib.proofs.CheckerCut.{answered_so_far, asked_in, finds_here}
use Rattle.git2show_lib.proofs.CheckerEnds.{AreShown}
use Rattle.git2show_lib.proofs.CheckerSteps.{nothing_gathered}
use Rattle.git2show_lib.proofs.JudgedReadings.{asked_so_far, nothing_begun, refused_as, stopped_at}
use Rattle.git2show_lib.proofs.Turns.{moved_by_count}

-- ---- a call

module _ {A : Type 0} {old new : JudgedRequests A} {chunk : List ℕ} {used : ℕ} where
  -- the bytes that a call of `feed` used were read
  pub reads_of : {got : JudgedGot A} → Feeds old chunk (record { used = used; got = got }) new → ReadsOn old new (asked_by got) (take used chunk)
  reads_of feeds = record { reads = λ bytes known h. feeds.reads bytes known h; advertised = feeds.by; limit = feeds.limit }

  -- a flush came instead of a request
  pub stop_fed : Feeds old chunk (record { used = used; got = Stop }) new → ReadsNoMore false new
  stop_fed feeds = let (some, quiet, sound) = feeds.leaves in λ bytes known h.
      let (stop, none) = stopped_at h quiet sound in (h.left, h.rest, asked_so_far h, (none, inl stop))

module _ {A : Type 0} {old new : JudgedRequests A} where
  -- what it did, by what it brought
  pub brought : {chunk : List ℕ} (read : JudgedRead A) {got : JudgedGot A} → read.got ≡ got → Feeds old chunk read new
      → Feeds old chunk (record { used = read.used; got = got }) new
  brought read is feeds = rw is at feeds

module _ {A : Type 0} {new : JudgedRequests A} where
  -- a request was read whole
  pub whole_fed : {used : ℕ} → IsOnward used new → HasReadWhole new
  whole_fed on = record {
    onward = on.onward;
    alone = λ bytes known h. (h.left, h.rest, asked_so_far h, nothing_begun h on.between on.shut on.onward.sound);
  }

-- the lines of a request that was asked, where none waited
pub lines_asked : {A : Type 0} (judged : Judged A) (before others : List ℕ) {after : List ℕ} {command : Command} → before ++ others ≡ []
    → after ≡ before ++ asked_line command → command ≡ command_of judged.request
    → after ++ (noted_in judged.others).lines ≡ question_shown (question_of judged)
lines_asked judged before others {command = command} none put is =
    ap (λ (l : List ℕ). l ++ (noted_in judged.others).lines)
    (put ∙ ap (λ (l : List ℕ). l ++ asked_line command) (nothing_gathered before others none) ∙ ap asked_line is)

module _ {A : Type 0} {t : Terms} {limit : ℕ} where
  module _ {client : Client A} {stream : JudgedRequests A} {count : ℕ} {requests responses lines : List ℕ} where
    -- the same check, with the same lines
    pub with_lines : {last : List Question} {same : List ℕ} → lines ≡ same → Checking t limit client stream count last requests responses lines
        → Checking t limit client stream count last requests responses same
    with_lines {last} is c = subst (λ (l : List ℕ). Checking t limit client stream count last requests responses l) is c

    -- a request is refused
    reading_ended : (fault : Fault) → Checking t limit client stream count [] requests responses lines → requests_fault stream ≡ Some fault
        → (ended : Bool) (more_requests more_responses : List ℕ) → IsTimely fault.kind ended more_requests
        → Checked A t limit (Err (Requests fault)) (unfailed ended) (unfailed false)
        ((requests ++ more_requests) ∷ (responses ++ more_responses) ∷ []) (lines ∷ [])
    reading_ended fault c failed ended more_requests more_responses in_time =
        let h = c.has_read in
        ends_so (finds_here c more_requests more_responses h.left h.rest (asked_so_far h)) (record {
          answered = answered_so_far c more_requests h.left h.rest;
          refused = rw c.limit_is at (refused_as h failed);
          timely = in_time;
          more_can_come = refl;
        })

  pub reading_refused : {client : Client A} {stream : JudgedRequests A} {count : ℕ} (requests : List ℕ) {responses lines more shown : List ℕ} (fault : Fault)
      → Checking t limit client stream count [] (requests ++ more) responses lines → requests_fault stream ≡ Some fault → fault.kind ≢ Truncated
      → AreShown fault.kind more shown
      → (opened : Bool) → IsOver A t limit (Err (Requests fault)) opened false false (requests ++ shown) responses lines
  reading_refused requests {responses} {lines} {more} {shown} fault c failed inside s opened more_requests more_responses follow =
      let behind = s.behind ++ more_requests in
      let same : (requests ++ shown) ++ more_requests ≡ (requests ++ more) ++ behind =
      ap (λ (l : List ℕ). (requests ++ l) ++ more_requests) s.parts ∙ ap (λ (l : List ℕ). l ++ more_requests) (sym (append_assoc requests more s.behind))
      ∙ append_assoc (requests ++ more) s.behind more_requests in
      subst (λ (l : List ℕ). Checked A t limit (Err (Requests fault)) (unfailed false) (unfailed false)
      (l ∷ (responses ++ more_responses) ∷ []) (lines ∷ [])) (sym same)
      (reading_ended fault c failed false behind more_responses
      (timely fault.kind false behind inside (λ long. omega (arith, s.one_more long, length-append s.behind more_requests))))

  module _ {client : Client A} {stream new : JudgedRequests A} {count : ℕ} {requests responses lines : List ℕ}
      (c : Checking t limit client stream count [] requests responses lines) where
    -- the requests end inside one
    pub closed_inside : {fault : Fault} → Closes (Err fault) stream new → (opened : Bool)
        → IsOver A t limit (Err (Requests fault)) opened true false requests responses lines
    closed_inside {fault} (kind, failed, advertised, kept, carries) opened more_requests more_responses follow =
        let on : ReadsOn stream new [] [] =
        record { reads = λ bytes known h. rw (append-nil bytes, append-nil known) (carries bytes known h); advertised = advertised; limit = kept } in
        let now = subst (λ (l : List ℕ). Checking t limit client new count [] l responses lines) (append-nil requests) (reads_on c on) in
        reading_ended fault now failed true more_requests more_responses (rw kind (follow.requests_end refl, refl))

    -- or after a whole one
    pub closed_whole : Closes (Ok tt) stream new → IsEnding t limit true requests responses lines client new count
    closed_whole (same, whole) = record {
      checking = rw same c;
      over = λ bytes known h. ([], [], rw same (whole bytes known (rw same at h)), (refl, inr (refl, refl)));
    }

  -- a request for a command that is not known was read, and its answer can pass
  pub passing_begins : {client : Client A} {stream : JudgedRequests A} {count : ℕ} {requests responses lines named : List ℕ} {packets : PacketReader}
      → Checking t limit client stream count (other named ∷ []) requests responses lines → HasReadWhole stream
      → Reads packets 0 [] [] [] → fault_of packets ≡ None → passes_of packets ≡ false
      → IsPassing t limit requests responses (lines ++ named) client stream count packets
  passing_begins {responses = responses} {lines} {named} c read reads sound gathers = record {
    before = responses;
    held = lines;
    used = [];
    named = named;
    checking = c;
    read = read;
    responses_are = sym (append-nil responses);
    shown = refl;
    passes = record { given = []; rest = []; reads = reads; goes_on = tt };
    sound = sound;
    gathers = gathers;
  }

  module _ {old : Client A} {stream : JudgedRequests A} (judged : Judged A) {passed : ℕ} {requests responses lines : List ℕ}
      (c : Checking t limit old stream passed (question_of judged ∷ []) requests responses lines) (read : HasReadWhole stream) where
    -- a request was read that can't be asked
    refused_here : {new : Client A} (fault : Fault) → format_of judged.request ≡ (offer_of stream).format
        → AsksNot fault old new judged.request dropped dropped → (opened requests_ended : Bool)
        → IsOver A t limit (Err (Responses (moved passed fault))) opened requests_ended false requests responses lines
    refused_here {new} fault format asks opened requests_ended more_requests more_responses follow =
        let (left, rest, are_asked, nothing) = read.alone requests (asked_in c) c.has_read in
        ends_so (finds_here c more_requests more_responses left rest are_asked) (inl (record {
          own = fault;
          is = inr (inr (inl (record {
            request = judged.request;
            noted = noted_in judged.others;
            format = format;
            asked = refl;
            nothing_left = nothing.0;
            no_rest = nothing.1;
            nothing_begun = refl;
            refused = refused_next t c.h [] judged.request old new fault c.runs.along.stands c.ready asks;
          })));
          reported = moved_by_count passed (passed_in c.r.turns) fault c.counts;
        }))

    pub asking_refused : {new : Client A} (fault : Fault) → format_of judged.request ≡ (offer_of stream).format
        → AsksNot fault old new judged.request dropped dropped → {waiting : List ℕ} → waiting ≡ []
        → (opened requests_ended : Bool) {responses_ended : Bool} → responses_ended ≡ false
        → IsOver A t limit (Err (Responses (moved passed fault))) opened requests_ended responses_ended requests responses (lines ++ waiting)
    asking_refused fault format asks {waiting} none opened requests_ended {responses_ended} open_ended =
        let result : Result (Unit {0}) CheckFault = Err (Responses (moved passed fault)) in
        subst (λ (ended : Bool). IsOver A t limit result opened requests_ended ended requests responses (lines ++ waiting)) (sym open_ended)
        (subst (λ (l : List ℕ). IsOver A t limit result opened requests_ended false requests responses l)
        (sym (ap (λ (l : List ℕ). lines ++ l) none ∙ append-nil lines)) (refused_here fault format asks opened requests_ended))

    -- or one that was asked, with these lines
    module _ {new : Client A} (asks : AsksNext false old new judged.request dropped dropped) (expected : wants_input new ≡ true) {shown : List ℕ}
        (lines_are : shown ≡ question_shown (question_of judged)) where
      request_asked : IsAsked t limit requests responses (lines ++ shown) [] new stream passed
      request_asked = record {
        old = old;
        judged = judged;
        before = responses;
        held = lines;
        checking = c;
        read = read;
        responses_are = sym (append-nil responses);
        asks = asks;
        lines_are = ap (λ (l : List ℕ). lines ++ l) lines_are;
        expected = expected;
      }

      nothing_came : {counts : Counts} → counts ≡ no_counts
          → ReceivesBytes false new new no_counts counts [] (gathered (lines ++ shown) (lines ++ shown)) dropped dropped
      nothing_came none = rw none (nothing_received new no_counts (Some (lines ++ shown)) None None expected)

      -- the response comes as the client knows it
      pub receiving_begins : {counts : Counts} → counts ≡ no_counts → form_asked t.format (noted_in judged.others).asks ≡ None
          → IsReceiving t limit requests responses (lines ++ shown) new counts stream passed
      unfolding request_asked
      receiving_begins none plain = record {
        middle = new;
        used = [];
        before = lines ++ shown;
        asked = request_asked;
        plain = plain;
        bytes = nothing_came none;
        waits = expected;
      }

      -- as many bytes of the responses were used before it as after it
      same_place : bytes_used old ≡ bytes_used new
      same_place = position_is t c.h old c.runs.along.stands ∙ sym (position_is t _ new (asks.goes t c.h c.runs.along.stands))

      -- or it is sieved
      pub sieving_begins : {counts : Counts} {sieve : Sieve} {packets : PacketReader} {left : List ℕ} {start : ℕ} (offset : ℕ) → counts ≡ no_counts
          → form_asked t.format (noted_in judged.others).asks ≡ Some sieve.form → sieve.spot ≡ Header → Reads packets 0 [] [] []
          → fault_of packets ≡ None → passes_of packets ≡ false → left ≡ [] → start ≡ bytes_used old
          → IsSieving t limit requests responses (lines ++ shown) left new counts stream passed start sieve packets offset
      unfolding request_asked
      sieving_begins {counts} offset nothing form_is spot_is reads sound gathers none start_is = record {
        middle = new;
        used = [];
        before = lines ++ shown;
        asked = request_asked;
        form_is = form_is;
        received = [];
        sieves = record {
          given = [];
          bad = [];
          rest = [];
          splits = record { spelled = refl; ends = none_begins_nothing };
          passed = tt;
          beyond = [];
          cut = refl;
        };
        bytes = nothing_came nothing;
        none_bad = refl;
        left_is = sym none;
        last = inl none;
        fits = tt;
        spot_is = spot_is;
        reads = reads;
        sound = sound;
        gathers = gathers;
        waits = expected;
        start_is = start_is ∙ same_place;
      }

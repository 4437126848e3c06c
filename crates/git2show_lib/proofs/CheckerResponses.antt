-- A machine that judges a conversation receives the advertisement, and passes over answers to commands that are not known.
use Rattle.std.proofs.Common.{arith, ◌≡◌, ◌≢◌, inl, inr, ℕ, ◌+◌, Bool, true, false, List, [], ◌∷◌, ◌++◌, length, take, drop, Option, Some}
use Rattle.std.proofs.Common.{Result, Ok, Err, refl, sym, subst, ap, ◌∙◌, append_assoc, append-nil, length-append, length-drop, take-append-drop}
use Rattle.std.proofs.lemmas.List.Elements.{All-nil}
use Rattle.git_pkt.specs.Streams.{IsTimely}
use Rattle.git_pkt.specs.Machine.PacketReader.{position_of}
use Rattle.git_pkt.specs.declared.fault.Fault.{Fault}
use Rattle.git_pkt.specs.declared.fault.Kind.TheVariants.{Truncated, UnexpectedPacket}
use Rattle.git_pkt.specs.declared.reader.PacketReader.{PacketReader}
use Rattle.git_pkt.proofs.EngineLemmas.{timely, written_nothing}
use Rattle.git_msg.specs.Advertisement.{noted_offer}
use Rattle.git_client.specs.Parts.{Terms}
use Rattle.git_client.specs.Machine.Client.{ReceivesOn, bytes_used, can_ask, caps_of, fault_of, phase_of, wants_input}
use Rattle.git_client.specs.Machine.Gathered.{dropped, gathered}
use Rattle.git_client.specs.Machine.RunSteps.{ReceivesBytes, no_counts}
use Rattle.git_client.specs.declared.client.Client.{Client}
use Rattle.git_client.specs.declared.events.Ending.{Ending}
use Rattle.git_client.specs.declared.receiving.Counts.{Counts}
use Rattle.git_client.proofs.EventsReceived.{is_whole, position_is}
use Rattle.git_client.proofs.Phases.{not_ready_where_expected}
use Rattle.git_client.proofs.ReceivedBytes.{received_then, received_to_fault}
use Rattle.git2show_lib.specs.Others.{HasLines}
use Rattle.git2show_lib.specs.Machine.CheckSteps.{Asking}
use Rattle.git2show_lib.specs.Machine.CheckedStreams.{Checked, HasEnded, moved, passed_in, place_after}
use Rattle.git2show_lib.specs.Machine.Checker.{IsEnding, IsOpening, IsOver, IsPassing, IsReading, unfailed}
use Rattle.git2show_lib.specs.Machine.Checking.{Checking, counted}
use Rattle.git2show_lib.specs.Machine.JudgedRequests.{HasRead, IsReady, is_between, is_within_packet, limit_of, offer_of, text_of}
use Rattle.git2show_lib.specs.Machine.Noting.{Gathers, HasNotedLines, IsLost}
use Rattle.git2show_lib.specs.Machine.OtherAnswers.{BreaksIn, BreaksOff, ClosesAnswer, PassesAll, PassesChunk, PassesUpTo}
use Rattle.git2show_lib.specs.declared.checking.CheckFault.{CheckFault}
use Rattle.git2show_lib.specs.declared.checking.CheckFault.TheVariants.{Responses}
use Rattle.git2show_lib.specs.declared.judged_requests.JudgedRequests.{JudgedRequests}
use Rattle.git2show_lib.specs.declared.noting.Noting.{Noting}
use Rattle.git2show_lib.proofs.CheckBroken.{ends_so}
use Rattle.git2show_lib.proofs.CheckRuns.{advertised, answer_passed, counted_place}
use Rattle.git2show_lib.proofs.CheckerCut.{begun_of, found_ending, found_passing, opening_within, refused_within}
use Rattle.git2show_lib.proofs.CheckerEnds.{AreShown, checked_behind}
use Rattle.git2show_lib.proofs.JudgedReadings.{asked_so_far, nothing_begun}
use Rattle.git2show_lib.proofs.Turns.{moved_by_count}

module _ {A : Type 0} where
  -- before the first request nothing is left
  pub asks_alone : {stream : JudgedRequests A} → IsReady stream → is_between stream ≡ true → is_within_packet stream ≡ false
      → Asking stream (λ used left rest. (left ≡ []) × (rest ≡ []))
  asks_alone ready between shut before known read = (read.left, read.rest, asked_so_far read, nothing_begun read between shut ready.sound)

-- how a chunk passed, in the terms of the conversation
pub passed_so : (t : Terms) (ending : Ending) (result expected : Result (Option ℕ) Fault) (old new : PacketReader) (chunk : List ℕ)
    → t.ending ≡ ending → result ≡ expected → PassesChunk ending result old new chunk → PassesChunk t.ending expected old new chunk
passed_so t ending result expected old new chunk same is passes =
    subst (λ (e : Ending). PassesChunk e expected old new chunk) (sym same)
    (subst (λ (r : Result (Option ℕ) Fault). PassesChunk ending r old new chunk) is passes)

module _ {A : Type 0} {t : Terms} {limit : ℕ} where
  -- requests are read on where none came before, and nothing passed
  pub opened_as : {requests responses lines : List ℕ} {client : Client A} {stream : JudgedRequests A} {passed : ℕ} → requests ≡ [] → passed ≡ 0
      → IsReading t limit [] responses lines client stream 0 → IsReading t limit requests responses lines client stream passed
  opened_as {requests} {responses} {lines} {client} {stream} {passed} none zero reading =
      subst (λ (l : List ℕ). IsReading t limit l responses lines client stream passed) (sym none)
      (subst (λ (n : ℕ). IsReading t limit [] responses lines client stream n) (sym zero) reading)

module _ {A : Type 0} {t : Terms} {limit : ℕ} where
  -- ---- the answer to a command that is not known

  module _ {requests responses lines : List ℕ} {client : Client A} {stream : JudgedRequests A} {passed : ℕ} {old : PacketReader}
      (p : IsPassing t limit requests responses lines client stream passed old) where
    bytes_further : (more : List ℕ) → responses ++ more ≡ p.before ++ (p.used ++ more)
    bytes_further more = ap (λ (l : List ℕ). l ++ more) p.responses_are ∙ append_assoc p.before p.used more

    -- more of it passed
    pub passes_further : {new : PacketReader} {chunk : List ℕ} → PassesAll t.ending old new chunk
        → IsPassing t limit requests (responses ++ chunk) lines client stream passed new
    passes_further {chunk = chunk} all = record {
      before = p.before;
      held = p.held;
      used = p.used ++ chunk;
      named = p.named;
      checking = p.checking;
      read = p.read;
      responses_are = bytes_further chunk;
      shown = p.shown;
      passes = all.passes p.used p.passes;
      sound = all.sound;
      gathers = all.gathers;
    }

    -- it passed whole
    pub passes_whole : {new : PacketReader} {chunk : List ℕ} {used now : ℕ} → PassesUpTo t.ending used old new chunk
        → now ≡ counted (passed + position_of new) → IsReading t limit requests (responses ++ take used chunk) lines client stream now
    passes_whole {new} {chunk} {used} up is =
        let has = up.passes p.used p.passes in
        let bytes = p.used ++ take used chunk in
        record {
          checking = subst (λ (n : ℕ). Checking t limit client stream n [] requests (responses ++ take used chunk) lines)
              (sym (is ∙ ap (λ (n : ℕ). counted (passed + n)) has.position))
              (answer_passed bytes p.checking has.answer (bytes_further (take used chunk)) p.shown);
          ready = p.read.onward;
        }

    -- it ends with a fault, which comes in time
    passing_ended : (requests_ended ended : Bool) {all : List ℕ} (used : List ℕ) → all ≡ p.before ++ used → (place : ℕ)
        → place ≡ counted (bytes_used client + passed) → (fault : Fault) → BreaksOff t.ending used fault → (more_requests more_responses : List ℕ)
        → IsTimely fault.kind ended more_responses
        → Checked A t limit (Err (Responses (moved place fault))) (unfailed requests_ended) (unfailed ended)
        ((requests ++ more_requests) ∷ (all ++ more_responses) ∷ []) (lines ∷ [])
    passing_ended requests_ended ended used all_is place at fault b more_requests more_responses in_time =
        let (found, finds, expected) = found_passing more_requests more_responses used p.checking p.read all_is p.shown in
        ends_so finds (inr (inl (record {
          own = fault;
          is = record {
            begun = begun_of p.named used;
            expected = expected;
            rest = b.rest;
            begins = b.begun;
            breaks = b.breaks;
            timely = in_time;
          };
          reported = moved_by_count place (place_after p.checking.r.opening p.checking.r.turns) fault (counted_place p.checking place at);
        })))

    -- it breaks off
    pub passes_not : {chunk : List ℕ} (place : ℕ) → place ≡ counted (bytes_used client + passed) → (fault : Fault)
        → BreaksIn t.ending fault old chunk → (opened requests_ended : Bool)
        → IsOver A t limit (Err (Responses (moved place fault))) opened requests_ended false requests (responses ++ chunk) lines
    passes_not {chunk} place at fault b opened requests_ended more_requests more_responses follow =
        let unused = drop b.used chunk ++ more_responses in
        let all : (responses ++ chunk) ++ more_responses ≡ (responses ++ take b.used chunk) ++ unused =
        ap (λ (l : List ℕ). (responses ++ l) ++ more_responses) (sym (take-append-drop b.used chunk))
        ∙ ap (λ (l : List ℕ). l ++ more_responses) (sym (append_assoc responses (take b.used chunk) (drop b.used chunk)))
        ∙ append_assoc (responses ++ take b.used chunk) (drop b.used chunk) more_responses in
        subst (λ (l : List ℕ). Checked A t limit (Err (Responses (moved place fault))) (unfailed requests_ended) (unfailed false)
        ((requests ++ more_requests) ∷ l ∷ []) (lines ∷ [])) (sym all)
        (passing_ended requests_ended false (p.used ++ take b.used chunk) (bytes_further (take b.used chunk)) place at fault (b.breaks p.used p.passes)
        more_requests unused (timely fault.kind false unused b.shown.not_the_end
        (λ long. omega (arith, b.shown.one_more long, length-drop b.used chunk, length-append (drop b.used chunk) more_responses))))

    -- it ends, though more is expected
    pub passes_to_the_end : (place : ℕ) → place ≡ counted (bytes_used client + passed) → (fault : Fault) → ClosesAnswer fault old
        → (opened requests_ended : Bool) → IsOver A t limit (Err (Responses (moved place fault))) opened requests_ended true requests responses lines
    passes_to_the_end place at fault (kind, breaks) opened requests_ended more_requests more_responses follow =
        passing_ended requests_ended true p.used p.responses_are place at fault (record {
          rest = p.passes.rest;
          begun = record { given = p.passes.given; splits = p.passes.reads.splits; goes_on = p.passes.goes_on };
          breaks = inr (breaks p.used p.passes.given p.passes.rest p.passes.reads);
        }) more_requests more_responses (rw kind (follow.responses_end refl, refl))

  -- ---- the advertisement

  module _ {responses lines : List ℕ} {client new : Client A} {counts now : Counts} {notes : Noting A} {more after : List ℕ}
      (o : IsOpening t limit responses lines client counts notes)
      (b : ReceivesBytes false client new counts now more (gathered lines after) dropped dropped) where
    opens : ReceivesBytes false o.first new no_counts now (responses ++ more) (gathered [] after) dropped dropped
    opens = received_then (not_ready_where_expected (phase_of client) o.waits) o.bytes b

    -- more of it was received
    pub opens_further : {noted : Noting A} → wants_input new ≡ true → HasNotedLines (responses ++ more) noted → Gathers noted
        → IsOpening t limit (responses ++ more) after new now noted
    opens_further waits notes gathers = record {
      first = o.first;
      anew = o.anew;
      first_waits = o.first_waits;
      bytes = opens;
      waits = waits;
      noted = notes;
      gathers = gathers;
    }

    -- it is whole
    pub opens_whole : {stream : JudgedRequests A} → can_ask new ≡ true → HasRead [] [] stream → IsReady stream
        → offer_of stream ≡ noted_offer (caps_of new) t.format → HasLines (responses ++ more) (text_of stream) → limit_of stream ≡ limit
        → IsReading t limit [] (responses ++ more) after new stream 0
    opens_whole ready reads onward offers noted kept =
        record { checking = advertised o.anew o.first_waits opens ready reads offers noted kept; ready = onward }

    -- it ends with a fault, which comes in time
    opening_ended : (requests_ended ended : Bool) (fault : Fault) → fault_of new ≡ Some fault → (more_requests more_responses : List ℕ)
        → more_requests ≡ [] → IsTimely fault.kind ended more_responses
        → Checked A t limit (Err (Responses (moved 0 fault))) (unfailed requests_ended) (unfailed ended)
        (more_requests ∷ ((responses ++ more) ++ more_responses) ∷ []) (after ∷ [])
    opening_ended requests_ended ended fault failed more_requests more_responses unopened in_time =
        subst (λ (l : List ℕ). Checked A t limit (Err (Responses (moved 0 fault))) (unfailed requests_ended) (unfailed ended)
        (l ∷ ((responses ++ more) ++ more_responses) ∷ []) (after ∷ [])) (sym unopened)
        (refused_within (opening_within o.anew o.first_waits opens) refl (unfailed requests_ended) (unfailed ended) fault failed more_responses in_time)

    -- it is refused
    pub opening_refused : {shown : List ℕ} (fault : Fault) → fault_of new ≡ Some fault → fault.kind ≢ Truncated → AreShown fault.kind more shown
        → (requests_ended : Bool) → IsOver A t limit (Err (Responses (moved 0 fault))) false requests_ended false [] (responses ++ shown) after
    opening_refused fault failed other shown requests_ended more_requests more_responses follow =
        checked_behind {result = Err (Responses (moved 0 fault))} responses more_responses shown
        (λ behind. opening_ended requests_ended false fault failed more_requests behind (follow.unopened refl)) other

    -- it is whole, and a line of it was not kept
    pub opening_unnoted : (fault : Fault) → can_ask new ≡ true → IsLost fault.kind → fault.offset ≡ bytes_used new → (requests_ended : Bool)
        → IsOver A t limit (Err (Responses (moved 0 fault))) false requests_ended false [] (responses ++ more) after
    opening_unnoted fault ready lost at requests_ended more_requests more_responses follow =
        let w = opening_within o.anew o.first_waits opens in
        subst (λ (l : List ℕ). Checked A t limit (Err (Responses (moved 0 fault))) (unfailed requests_ended) (unfailed false)
        (l ∷ ((responses ++ more) ++ more_responses) ∷ []) (after ∷ [])) (sym (follow.unopened refl))
        (ends_so (w.finds more_responses) (inl (record {
          own = fault;
          is = inr (inl (record {
            answered = record {
              asked = refl;
              ended = All-nil (λ turn. HasEnded t turn.question turn.bytes turn.received turn.events);
              nothing_begun = refl;
              whole = is_whole t w.h new w.stands ready;
            };
            none_asked = refl;
            why = lost;
            at = at ∙ position_is t w.h new w.stands;
          }));
          reported = refl;
        })))

  -- the responses end in the advertisement
  pub opening_closed : {responses lines : List ℕ} {client new : Client A} {counts : Counts} {notes : Noting A}
      → IsOpening t limit responses lines client counts notes → (fault : Fault) → fault_of new ≡ Some fault → ReceivesOn client [] [] new
      → fault.kind ≡ Truncated → (requests_ended : Bool)
      → IsOver A t limit (Err (Responses (moved 0 fault))) false requests_ended true [] responses lines
  opening_closed {responses} {lines} {counts = counts} o fault failed arrives kind requests_ended =
      subst (λ (l : List ℕ). IsOver A t limit (Err (Responses (moved 0 fault))) false requests_ended true [] l lines) (append-nil responses)
      (λ more_requests more_responses follow.
      opening_ended o (received_to_fault counts arrives fault failed (written_nothing (Some lines)) tt tt) requests_ended true fault failed more_requests
      more_responses (follow.unopened refl) (rw kind (follow.responses_end refl, refl)))

  -- ---- the end

  module _ {requests_ended : Bool} {requests responses lines : List ℕ} {client : Client A} {stream : JudgedRequests A} {passed : ℕ}
      (e : IsEnding t limit requests_ended requests responses lines client stream passed) where
    -- a byte is left over
    pub ends_not : (byte position : ℕ) → position ≡ counted (bytes_used client + passed) → (opened : Bool)
        → IsOver A t limit (Err (Responses (record { kind = UnexpectedPacket; offset = position }))) opened requests_ended false requests
        (responses ++ byte ∷ []) lines
    ends_not byte position at opened more_requests more_responses follow =
        let c = e.checking in
        let (found, finds, answered, over) = found_ending more_requests (byte ∷ more_responses) e follow.requests_end in
        let place : position ≡ counted (length c.h.used + passed_in c.r.turns) =
        counted_place c position at ∙ ap (λ (used : List ℕ). counted (length used + passed_in c.r.turns)) (sym c.received.used_is) in
        let result : Result (Unit {0}) CheckFault = Err (Responses (record { kind = UnexpectedPacket; offset = position })) in
        subst (λ (l : List ℕ). Checked A t limit result (unfailed requests_ended) (unfailed false) ((requests ++ more_requests) ∷ l ∷ []) (lines ∷ []))
        (sym (append_assoc responses (byte ∷ []) more_responses)) (ends_so finds (inl (record {
          own = record { kind = UnexpectedPacket; offset = length c.h.used };
          is = inr (inr (inr (record { answered = answered; over = over; more = omega arith; fault_is = refl })));
          reported = ap (λ (n : ℕ). record { kind = UnexpectedPacket; offset = n }) place;
        })))

    -- nothing is
    pub ends_well : (opened : Bool) → IsOver A t limit (Ok tt) opened requests_ended true requests responses lines
    ends_well opened more_requests more_responses follow =
        let (found, finds, answered, over) = found_ending more_requests more_responses e follow.requests_end in
        ends_so finds (record { answered = answered; over = over; nothing_left = follow.responses_end refl; ended = refl })

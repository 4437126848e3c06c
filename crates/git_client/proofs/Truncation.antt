-- A client fails with `Truncated` only if its input was closed.
use Rattle.std.proofs.Common.{◌≡◌, ◌⊎◌, ◌↔◌, inl, inr, arith, ℕ, suc, Bool, true, false, List, [], ◌∷◌, ◌++◌, length, Option, Some, None}
use Rattle.std.proofs.Common.{refl, sym, ap, ◌∙◌, subst, append-nil, cond, length-append, slice_get}
use Rattle.git_pkt.specs.Packets.{Pkt, flush, flushes, payload}
use Rattle.git_pkt.specs.Splits.{Given, Splits}
use Rattle.git_pkt.specs.Machine.Credit.{MakesAll}
use Rattle.git_pkt.specs.declared.fault.Fault.{Fault}
use Rattle.git_pkt.specs.declared.fault.Kind.TheVariants.{Truncated}
use Rattle.git_pkt.specs.declared.reader.PacketReader.{PacketReader}
use Rattle.git_pkt.proofs.Streams.{one_split}
use Rattle.git_msg.specs.Asked.{Asked}
use Rattle.git_msg.specs.Machine.HeldRequest.{asked_of}
use Rattle.git_msg.specs.declared.requests.Request.{Request}
use Rattle.git_client.specs.Parts.{Terms, in_format, closing, answer_to, nearest, message_of, part_after}
use Rattle.git_client.specs.Places.{place_after, place_of}
use Rattle.git_client.specs.Events.{EventValue}
use Rattle.git_client.specs.Conversation.{FirstFault, GiveAll, HasExpected}
use Rattle.git_client.specs.Machine.Turns.{fault_in, has_left_in, is_ready, left_in, question_in, takes_packets}
use Rattle.git_client.specs.Machine.Client.{AreWhole, Asks, Converses, Feeds, History, IsAsked, Leaves, LeavesAfter, StandsIn, Announces}
use Rattle.git_client.specs.Machine.Client.{can_ask, fault_of, left_to_send, phase_of, reader_of, request_of, wants_input}
use Rattle.git_client.specs.Machine.AnyCalls.{AnyCall, MakesAny, choose, other, others_of}
use Rattle.git_client.specs.Machine.Choosing.{ChoosesFormat}
use Rattle.git_client.specs.Machine.Calls.{Call, ask, ask_refused, leave, pull, feed, close, IsTruncated, Makes, after_call, closes}
use Rattle.git_client.specs.declared.client.Client.{Client}
use Rattle.git_client.specs.declared.events.Event.{Event}
use Rattle.git_client.specs.declared.events.Event.TheVariants.{Offered, Ended}
use Rattle.git_client.specs.declared.events.Received.{Received}
use Rattle.git_client.specs.declared.events.ReceivedGot.{ReceivedGot}
use Rattle.git_client.specs.declared.events.ReceivedGot.TheVariants.{More, Event as EventGot, Failed as FailedGot}
use Rattle.git_client.specs.declared.events.Sent.TheVariants.{Packet, NeedInput, CanAsk, Finished, Failed as FailedSent}
use Rattle.git_client.specs.declared.phase.Phase.{Phase}
use Rattle.git_client.specs.declared.phase.Phase.TheVariants.{Receiving, Ready, Asking, Leaving, Left, Failed}
use Rattle.git_client.proofs.Calls.{chosen_on, goes_on}
use Rattle.git_client.proofs.OneFault.{none_among}
use Rattle.git_client.proofs.Sequences.{gives_more, place_more}

-- ---- a client that has failed does nothing more

-- after the responses to all requests no response is expected
past_all : (asked : List Asked) → slice_get asked (length asked) ≡ None
past_all [] = refl
past_all (q ∷ asked) = past_all asked

pub none_expected : (t : Terms) (asked : List Asked) (before : List Pkt) → AreWhole t asked before → place_after t asked before ≡ None
none_expected t asked [] whole = let count : 0 ≡ suc (length asked) = whole.all_flushes in absurd (omega (arith, count))
none_expected t asked (p ∷ before) whole =
    let message = message_of (p ∷ before) in
    ap (λ (ends : Bool). place_of t.format (cond ends (Some closing) (part_after asked (flushes (p ∷ before)))) message) whole.no_end_expected
    ∙ ap (λ (n : ℕ). place_of t.format (part_after asked n) message) whole.all_flushes
    ∙ ap (λ (o : Option Asked). place_of t.format (answer_to o) message) (past_all asked)

-- after an error, or while something is expected, not all responses to these requests are whole
module _ (t : Terms) (asked more : List Asked) (used : List ℕ) (given again : List Given) (rest other : List ℕ)
    (one : Splits 0 used given rest) (two : Splits 0 used again other) where
  same_packets : given ≡ again
  same_packets = (one_split 0 used given again rest other one.spelled two.spelled one.ends two.ends).packets

  expected_or_whole : (clean : List Given) → given ≡ clean → HasExpected t asked (nearest clean []) → AreWhole t asked (nearest again []) → ⊥
  expected_or_whole clean cut (place, is) whole =
      let none = none_expected t asked (nearest again []) whole in
      let same : clean ≡ again = sym cut ∙ same_packets in
      let some : place_after t asked (nearest again []) ≡ Some place = ap (λ (gs : List Given). place_after t asked (nearest gs [])) (sym same) ∙ is in
      cc

  failed_or_whole : (clean : List Given) (events whole : List EventValue) (end : ℕ) (f : Fault) (reader : PacketReader)
      → GiveAll t asked [] clean events → StandsIn (Failed f) t asked clean given rest end None reader
      → GiveAll t (asked ++ more) [] again whole → AreWhole t asked (nearest again []) → ⊥
  failed_or_whole clean events whole end f reader sound (inl h) gives all =
      let first : FirstFault t (asked ++ more) again f.kind f.offset = record {
        clean = clean;
        bad = h.bad;
        more = [];
        events = events;
        cut = sym same_packets ∙ h.cut;
        sound = gives_more t asked more [] clean events sound;
        refused = record {
          place = h.refused.place;
          is_place = place_more t asked more (nearest clean []) h.refused.place h.refused.is_place;
          refuses = h.refused.refuses;
        };
        at = h.at;
      } in
      none_among t (asked ++ more) again whole f.kind f.offset gives first
  failed_or_whole clean events whole end f reader sound (inr (inl h)) gives all = expected_or_whole clean h.cut h.expected all
  failed_or_whole clean events whole end f reader sound (inr (inr h)) gives all = expected_or_whole clean h.cut h.expected all

-- the properties of a phase with an error
failed_phase : (phase : Phase) (f : Fault) → fault_in phase ≡ Some f → phase ≡ Failed f
failed_phase (Receiving expected) f e = absurd (cc)
failed_phase Ready f e = absurd (cc)
failed_phase (Asking writer) f e = absurd (cc)
failed_phase Leaving f e = absurd (cc)
failed_phase Left f e = absurd (cc)
failed_phase (Failed fault) f e = let same : fault ≡ f = cc in ap Failed same

module _ {A : Type 0} where
  wants_or_failed : (client : Client A) (f : Fault) → wants_input client ≡ true → fault_of client ≡ Some f → ⊥
  wants_or_failed client f wants failed =
      let is : takes_packets (Failed f) ≡ true = subst (λ (phase : Phase). takes_packets phase ≡ true) (failed_phase client.phase f failed) wants in cc

  ready_or_failed : (client : Client A) (f : Fault) → can_ask client ≡ true → fault_of client ≡ Some f → ⊥
  ready_or_failed client f ready failed =
      let is : is_ready (Failed f) ≡ true = subst (λ (phase : Phase). is_ready phase ≡ true) (failed_phase client.phase f failed) ready in cc

  has_unsent_or_failed : (client : Client A) (f : Fault) (p : Pkt) (ps : List Pkt) → left_to_send client ≡ p ∷ ps → fault_of client ≡ Some f → ⊥
  has_unsent_or_failed client f p ps has_unsent failed =
      let is : left_in (Failed f) client.request ≡ p ∷ ps =
      subst (λ (phase : Phase). left_in phase client.request ≡ p ∷ ps) (failed_phase client.phase f failed) has_unsent in cc

-- if a client asks or has left, all before was whole
module _ (t : Terms) (asked : List Asked) (clean given : List Given) (rest : List ℕ) (end : ℕ) (question : Option Asked) (reader : PacketReader) where
  pub asks_in : {A : Type 0} (phase : Phase) (request : Option (Request A)) (line : List ℕ) (ps : List Pkt) → left_in phase request ≡ payload line ∷ ps
      → StandsIn phase t asked clean given rest end question reader → (given ≡ clean) × IsAsked t asked (nearest clean []) question
  asks_in (Asking writer) request line ps has_unsent h = (h.cut, h.behind)
  asks_in (Receiving expected) request line ps has_unsent h = absurd (cc)
  asks_in Ready request line ps has_unsent h = absurd (cc)
  asks_in Leaving request line ps has_unsent h = absurd (cc)
  asks_in Left request line ps has_unsent h = absurd (cc)
  asks_in (Failed fault) request line ps has_unsent h = absurd (cc)

  left_whole : (phase : Phase) → has_left_in phase ≡ true → StandsIn phase t asked clean given rest end question reader
      → (given ≡ clean) × AreWhole t asked (nearest clean [])
  left_whole Leaving left h = (h.cut, h.behind)
  left_whole Left left h = (h.cut, h.behind)
  left_whole (Receiving expected) left h = absurd (cc)
  left_whole Ready left h = absurd (cc)
  left_whole (Asking writer) left h = absurd (cc)
  left_whole (Failed fault) left h = absurd (cc)

module _ {A : Type 0} (t : Terms) (h : History) (old : Client A) (f : Fault) (c : Converses t h old) (failed : fault_of old ≡ Some f) where
  stands_failed : StandsIn (Failed f) t h.asked c.clean c.given c.rest (length h.used) (question_in (request_of old)) (reader_of old)
  stands_failed =
      subst (λ (phase : Phase). StandsIn phase t h.asked c.clean c.given c.rest (length h.used) (question_in (request_of old)) (reader_of old))
      (failed_phase (phase_of old) f failed) c.stands

  -- so a client that has failed cannot ask
  failed_or_asks : (request : Request A) (new : Client A) → Asks old request new → ⊥
  failed_or_asks request new asks =
      let question = asked_of request in
      let d = asks.asks t h c in
      let (cut, behind) =
      asks_in t (h.asked ++ question ∷ []) d.clean d.given d.rest (length h.used) (question_in (request_of new)) (reader_of new) (phase_of new)
      (request_of new) _ _ asks.has_unsent d.stands in
      let gives : GiveAll t (h.asked ++ question ∷ []) [] d.given d.whole =
      subst (λ (gs : List Given). GiveAll t (h.asked ++ question ∷ []) [] gs d.whole) (sym cut) d.gives in
      let whole : AreWhole t behind.earlier (nearest d.given []) =
      subst (λ (gs : List Given). AreWhole t behind.earlier (nearest gs [])) (sym cut) behind.whole in
      let long = ap length behind.asked_is in
      let parts = length-append h.asked (question ∷ []) in
      let others = length-append behind.earlier (behind.last ∷ []) in
      failed_or_whole t h.asked (question ∷ []) h.used c.given d.given c.rest d.rest c.reads.splits d.reads.splits c.clean c.whole d.whole (length h.used) f
      (reader_of old) c.gives stands_failed gives (record {
        all_flushes = omega (arith, whole.all_flushes, long, parts, others);
        no_end_expected = whole.no_end_expected;
        no_message = whole.no_message;
      })

  -- and cannot leave
  failed_or_leaves : (new : Client A) → Leaves old new → ⊥
  failed_or_leaves new leaves =
      let d = leaves.leaves t h c in
      let (cut, behind) =
      left_whole t h.asked d.clean d.given d.rest (length h.used) (question_in (request_of new)) (reader_of new) (phase_of new) leaves.no_more d.stands in
      let gives : GiveAll t (h.asked ++ []) [] d.given d.whole =
      subst (λ (l : List Asked). GiveAll t l [] d.given d.whole) (sym (append-nil h.asked))
      (subst (λ (gs : List Given). GiveAll t h.asked [] gs d.whole) (sym cut) d.gives) in
      failed_or_whole t h.asked [] h.used c.given d.given c.rest d.rest c.reads.splits d.reads.splits c.clean c.whole d.whole (length h.used) f
      (reader_of old) c.gives stands_failed gives (subst (λ (gs : List Given). AreWhole t h.asked (nearest gs [])) (sym cut) behind)

-- ---- each call

-- the error of a client whose input ended
abbrev IsOfTheEnd : Option Fault → Type 0
IsOfTheEnd error = (fault : Fault) × (error ≡ Some fault) × (fault.kind ≡ Truncated)

module _ {A : Type 0} where
  -- after an event a client has no error
  event_or_failed : (event : Event) (client : Client A) (f : Fault) → LeavesAfter event client → fault_of client ≡ Some f → ⊥
  event_or_failed Offered client f leaves failed = ready_or_failed client f leaves failed
  event_or_failed Ended client f leaves failed = ready_or_failed client f leaves failed
  event_or_failed event client f leaves failed = wants_or_failed client f leaves failed

  -- a truncated client stays truncated
  stays_truncated : (t : Terms) (call : Call A) (h : History) (before : ℕ) (old : Client A) (after : ℕ) (new : Client A) → Makes call before old after new
      → Converses t h old → IsTruncated old → IsTruncated new
  stays_truncated t (ask request) h before old after new made c (f, failed, kind) = absurd (failed_or_asks t h old f c failed request new made.0)
  stays_truncated t (ask_refused request handed_back fault) h before old after new made c cut = subst IsTruncated (sym made.0.stays) cut
  stays_truncated t leave h before old after new made c (f, failed, kind) = absurd (failed_or_leaves t h old f c failed new made.0)
  stays_truncated t (pull (Packet bytes)) h before old after new made c (f, failed, kind) =
      absurd (has_unsent_or_failed old f made.0.announces.packet (left_to_send new) made.0.announces.first failed)
  stays_truncated t (pull NeedInput) h before old after new made c cut = subst IsTruncated (sym made.0.announces.1) cut
  stays_truncated t (pull CanAsk) h before old after new made c cut = subst IsTruncated (sym made.0.announces.1) cut
  stays_truncated t (pull Finished) h before old after new made c cut = subst IsTruncated (sym made.0.announces.2) cut
  stays_truncated t (pull (FailedSent fault)) h before old after new made c cut = subst IsTruncated (sym made.0.announces.1) cut
  stays_truncated t (feed chunk answer) h before old after new made c (f, failed, kind) =
      subst IsTruncated (sym (made.0.stays f failed).2) (f, failed, kind)
  stays_truncated t (close fault) h before old after new made c (f, failed, kind) = absurd (wants_or_failed old f made.0.waits failed)

  -- `feed` makes no client truncated
  fed_truncated : (chunk : List ℕ) (old new : Client A) (answer : Received) (so_far : Option Fault) (wants : Bool) (got : ReceivedGot)
      → Feeds old chunk answer new → fault_of old ≡ so_far → wants_input old ≡ wants → answer.got ≡ got → IsTruncated new → IsTruncated old
  fed_truncated chunk old new answer (Some fault) wants got feeds is wanted arrived cut =
      subst IsTruncated (feeds.stays fault is).2 cut
  fed_truncated chunk old new answer None false got feeds is wanted arrived cut =
      subst IsTruncated (feeds.waits wanted is).2 cut
  fed_truncated chunk old new answer None true More feeds is wanted arrived (f, failed, kind) =
      let announces : Announces More answer.used chunk old new = subst (λ (g : ReceivedGot). Announces g answer.used chunk old new) arrived feeds.announces in
      absurd (wants_or_failed new f (announces wanted).1 failed)
  fed_truncated chunk old new answer None true (EventGot event) feeds is wanted arrived (f, failed, kind) =
      let announces : Announces (EventGot event) answer.used chunk old new =
      subst (λ (g : ReceivedGot). Announces g answer.used chunk old new) arrived feeds.announces in
      absurd (event_or_failed event new f announces.3 failed)
  fed_truncated chunk old new answer None true (FailedGot fault) feeds is wanted arrived (f, failed, kind) =
      let announces : Announces (FailedGot fault) answer.used chunk old new =
      subst (λ (g : ReceivedGot). Announces g answer.used chunk old new) arrived feeds.announces in
      let same : f ≡ fault = let both = sym failed ∙ announces in cc in
      absurd ((feeds.news fault is arrived).not_the_end (ap (λ (x : Fault). x.kind) (sym same) ∙ kind))

  -- nor does any other call but `close`
  was_truncated : (call : Call A) (calls : List (Call A)) (before : ℕ) (old : Client A) (after : ℕ) (new : Client A) → Makes call before old after new
      → IsTruncated new → IsTruncated old ⊎ (closes (call ∷ calls) ≡ true)
  was_truncated (ask request) calls before old after new made (f, failed, kind) = absurd (has_unsent_or_failed new f _ _ made.0.has_unsent failed)
  was_truncated (ask_refused request handed_back fault) calls before old after new made cut = inl (subst IsTruncated made.0.stays cut)
  was_truncated leave calls before old after new made (f, failed, kind) = absurd (has_unsent_or_failed new f flush [] made.0.has_unsent failed)
  was_truncated (pull (Packet bytes)) calls before old after new made (f, failed, kind) =
      let both = sym made.0.announces.sound ∙ failed in absurd (cc)
  was_truncated (pull NeedInput) calls before old after new made cut = inl (subst IsTruncated made.0.announces.1 cut)
  was_truncated (pull CanAsk) calls before old after new made cut = inl (subst IsTruncated made.0.announces.1 cut)
  was_truncated (pull Finished) calls before old after new made cut = inl (subst IsTruncated made.0.announces.2 cut)
  was_truncated (pull (FailedSent fault)) calls before old after new made cut = inl (subst IsTruncated made.0.announces.1 cut)
  was_truncated (feed chunk answer) calls before old after new made cut =
      inl (fed_truncated chunk old new answer (fault_of old) (wants_input old) answer.got made.0 refl refl refl cut)
  was_truncated (close fault) calls before old after new made cut = inr refl

  -- if the later calls have a `close`, so have all
  closes_more : (call : Call A) (calls : List (Call A)) → closes calls ≡ true → closes (call ∷ calls) ≡ true
  closes_more (ask request) calls e = e
  closes_more (ask_refused request handed_back fault) calls e = e
  closes_more leave calls e = e
  closes_more (pull sent) calls e = e
  closes_more (feed chunk answer) calls e = e
  closes_more (close fault) calls e = refl

  -- ---- all calls

  -- the choice of a format changes no error
  errors_stay : (old new : Client A) → ChoosesFormat old new → fault_of old ≡ fault_of new
  errors_stay old new chosen = ap fault_in (sym chosen.phase)

  all_stay : (t : Terms) (calls : List (AnyCall A)) (h : History) (before : ℕ) (old : Client A) (after : ℕ) (new : Client A)
      → MakesAll MakesAny calls before old after new → Converses t h old → IsTruncated old → IsTruncated new
  all_stay t [] h before old after new (counter, same) c cut = subst IsTruncated (sym same) cut
  all_stay t (choose format ∷ calls) h before old after new (next, between, (chosen, is, counter), more) c cut =
      all_stay (in_format format t) calls h next between after new more (chosen_on t format h old between chosen is c)
      (subst IsOfTheEnd (errors_stay old between chosen) cut)
  all_stay t (other call ∷ calls) h before old after new (next, between, made, more) c cut =
      all_stay t calls (after_call h call) next between after new more (goes_on t call h before old next between made c)
      (stays_truncated t call h before old next between made c cut)

  -- the first call is `close`, or a later one
  closes_first : (call : Call A) (calls : List (Call A)) → closes (call ∷ calls) ≡ true
      → ((fault : Fault) × (call ≡ close fault)) ⊎ (closes calls ≡ true)
  closes_first (ask request) calls e = inr e
  closes_first (ask_refused request handed_back fault) calls e = inr e
  closes_first leave calls e = inr e
  closes_first (pull sent) calls e = inr e
  closes_first (feed chunk answer) calls e = inr e
  closes_first (close fault) calls e = inl (fault, refl)

  closed_now : (fault : Fault) (before : ℕ) (old : Client A) (after : ℕ) (new : Client A) → Makes (close fault) before old after new → IsTruncated new
  closed_now fault before old after new made = (fault, made.0.refused, made.0.kind)

  -- if one of them is, the client is truncated
  where_closed : (t : Terms) (calls : List (AnyCall A)) (h : History) (before : ℕ) (old : Client A) (after : ℕ) (new : Client A)
      → MakesAll MakesAny calls before old after new → Converses t h old → closes (others_of calls) ≡ true → IsTruncated new
  where_closed t [] h before old after new made c e = absurd (cc)
  where_closed t (choose format ∷ calls) h before old after new (next, between, (chosen, is, counter), more) c e =
      where_closed (in_format format t) calls h next between after new more (chosen_on t format h old between chosen is c) e
  where_closed t (other call ∷ calls) h before old after new (next, between, made, more) c e =
      let d = goes_on t call h before old next between made c in
      elim (closes_first call (others_of calls) e) [
        | inl (fault, is) ↦ all_stay t calls (after_call h call) next between after new more d
            (closed_now fault before old next between (subst (λ (x : Call A). Makes x before old next between) is made))
        | inr later ↦ where_closed t calls (after_call h call) next between after new more d later
      ]

  -- and only then
  closed_or_was : (calls : List (AnyCall A)) (before : ℕ) (old : Client A) (after : ℕ) (new : Client A) → MakesAll MakesAny calls before old after new
      → IsTruncated new → IsTruncated old ⊎ (closes (others_of calls) ≡ true)
  closed_or_was [] before old after new (counter, same) cut = inl (subst IsTruncated same cut)
  closed_or_was (choose format ∷ calls) before old after new (next, between, (chosen, is, counter), more) cut =
      elim (closed_or_was calls next between after new more cut) [
        | inl was ↦ inl (subst IsOfTheEnd (sym (errors_stay old between chosen)) was)
        | inr closed ↦ inr closed
      ]
  closed_or_was (other call ∷ calls) before old after new (next, between, made, more) cut =
      elim (closed_or_was calls next between after new more cut) [
        | inl was ↦ was_truncated call (others_of calls) before old next between made was
        | inr closed ↦ inr (closes_more call (others_of calls) closed)
      ]

  pub truncated_where_closed : (t : Terms) (h : History) (calls : List (AnyCall A)) (before after : ℕ) (first last : Client A) → Converses t h first
      → fault_of first ≡ None → MakesAll MakesAny calls before first after last → (closes (others_of calls) ≡ true) ↔ IsTruncated last
  truncated_where_closed t h calls before after first last c sound made = (
    where_closed t calls h before first after last made c,
    λ cut. elim (closed_or_was calls before first after last made cut) [
      | inl (f, failed, kind) ↦ let both = sym sound ∙ failed in absurd (cc)
      | inr closed ↦ closed
    ],
  )

use Rattle.std.proofs.Common.{◌≡◌, ◌⊎◌, length, length-append, ℕ, None, true, false, List, [], ◌∷◌, ◌++◌, codes, refl, sym, ap}
use Rattle.std.proofs.Common.{arith, ◌∙◌, inl, inr, subst}
use Rattle.std.proofs.lemmas.List.Elements.{All-nil}
use Rattle.git_pkt.proofs.Spelling.{none_begins_nothing}
use Rattle.git_pkt.specs.Splits.{Given, Splits}
use Rattle.git_pkt.proofs.Streams.{one_split}
use Rattle.git_msg.specs.Requests.{IsStop}
use Rattle.git_client.specs.Conversation.{IsConversation}
use Rattle.git_msg.specs.Advertisement.{noted_of, noted_offer, offers_command}
use Rattle.git_msg.specs.Asked.{Asked, command_asked}
use Rattle.git_msg.specs.WrittenRequest.{text_line}
use Rattle.git_client.specs.Events.{EventValue, offered}
use Rattle.git_names.specs.declared.object_format.Format.TheVariants.{Sha1}
use Rattle.git_pkt.specs.Packets.{flush}
use Rattle.git_client.proofs.EventsReceived.{later_questions}
use Rattle.git2show_lib.specs.Others.{Advertised, is_other_line, is_own_key, judged_of, line_kept}
use Rattle.git2show_lib.specs.OtherLines.{Question}
use Rattle.git2show_lib.specs.Machine.CheckedStreams.{ComeInTurn, HasEnded, Turn, bytes_begun, bytes_in, received_in}
use Rattle.git2show_lib.specs.Machine.JudgedRequests.{AreQuestions}
use Rattle.git_rows.specs.WorkedConversations.{offer_bytes, terms}
use Rattle.git_rows.proofs.ReceivedPackets.{flushes_are, offer_packets, offer_splits, offer_then, whole_offer}
use Rattle.git_rows.proofs.runs.streams_checked.Goals as goal

pub returns-clause-whole : goal.returns-clause-whole
unfolding line_kept is_other_line is_own_key
returns-clause-whole g c = record {
  h = record { asked = []; left = false; used = offer_bytes; events = offered ∷ []; given = [] };
  unused = [];
  found = record { used = []; unused = []; asked = []; left = []; rest = [] };
  by = record { offer = noted_offer (noted_of (flush ∷ text_line (codes "version 2") ∷ [])) Sha1; text = [] };
  r = record { opening = offer_bytes; greeting = offered ∷ []; turns = []; begun = None };
  were_read = refl;
  announced = refl;
  received = record { asked_is = refl; used_is = refl; events_are = refl; one_turn = (true, (refl, refl)); in_turn = tt };
  arrived = later_questions terms [] [] offer_bytes (offered ∷ []) whole_offer;
  may_be = λ caps noted. All-nil (λ (q : Asked). offers_command caps (command_asked q) ≡ true);
  in_turn = omega arith;
  offered = inl (record {
    advertised = offer_bytes;
    more = [];
    events = offered ∷ [];
    caps = noted_of (flush ∷ text_line (codes "version 2") ∷ []);
    cut = refl;
    whole = whole_offer;
    noted = (
      offer_packets,
      offered ∷ [],
      record {
        given = offer_packets;
        rest = [];
        more = [];
        splits = offer_splits;
        cut = refl;
        gives = offer_then [] [] [] refl;
        stops = tt;
      },
      refl,
    );
    offers = refl;
    lines = record { given = offer_packets; rest = []; splits = offer_splits; text_is = refl };
  });
  asks = record { packets = []; splits = record { spelled = refl; ends = none_begins_nothing }; requests = refl };
  ends = record {
    answered = record {
      asked = refl;
      ended = All-nil (λ turn. HasEnded terms turn.question turn.bytes turn.received turn.events);
      nothing_begun = refl;
      whole = whole_offer;
    };
    over = (refl, inr (refl, refl, refl));
    nothing_left = refl;
    ended = refl;
  };
}

-- an empty stream was used whole
nothing_used : (used unused : List ℕ) → used ++ unused ≡ [] → used ≡ []
nothing_used [] unused e = refl
nothing_used (b ∷ used) unused e = cc

first_of_two : (a b x y : List ℕ) → a ∷ b ∷ [] ≡ x ∷ y ∷ [] → (x ≡ a) × (y ≡ b)
first_of_two a b x y e = (cc, cc)

-- without packets none are left
none_left : (by : Advertised) (limit : ℕ) (packets : List Given) (asked : List Question) (left : List Given) → packets ≡ []
    → AreQuestions by limit packets asked left → left ≡ []
none_left by limit packets [] left none same = sym same ∙ none
none_left by limit packets (q ∷ qs) left none (front, more, whole, first, rest) =
    none_left by limit more qs left (nothing_after front more (sym whole ∙ none)) rest
  where
    nothing_after : (front more : List Given) → front ++ more ≡ [] → more ≡ []
    nothing_after [] more e = e
    nothing_after (g ∷ front) more e = cc

-- and no flush comes in place of a request
none_stops : (text : List ℕ) (left : List Given) (P : Type 0) → left ≡ [] → IsStop (judged_of text left) ⊎ ((left ≡ []) × P × (false ≡ true)) → ⊥
none_stops text left P none (inl stop) = omega (arith, ap length (ap (judged_of text) none), ap length stop.alone)
none_stops text left P none (inr (same, rest, ended)) = cc

pub returns-clause-not_while_requests_may_come : goal.returns-clause-not_while_requests_may_come
returns-clause-not_while_requests_may_come g c = λ h.
    let used = nothing_used h.found.used h.found.unused (first_of_two [] offer_bytes _ _ h.were_read).0 in
    let splits = subst (λ (bytes : List ℕ). Splits 0 bytes h.asks.packets h.found.rest) used h.asks.splits in
    let packets = (one_split 0 [] h.asks.packets [] h.found.rest [] splits.spelled refl splits.ends none_begins_nothing).packets in
    none_stops h.by.text h.found.left _ (none_left h.by 0 h.asks.packets h.found.asked h.found.left packets h.asks.requests) h.ends.over.1

-- where no byte of an advertisement came, no turn came
no_turns : (opening : List ℕ) (greeting : List EventValue) (turns : List Turn) → opening ≡ [] → ComeInTurn terms opening greeting [] turns
    → received_in turns ≡ []
no_turns opening greeting [] none come = refl
no_turns opening greeting (turn ∷ turns) none (first, come) =
    let whole = subst (λ (bytes : List ℕ). IsConversation terms [] (bytes ++ []) (greeting ++ [])) none first.answered in
    let count = flushes_are terms [] [] (greeting ++ []) [] [] whole (record { spelled = refl; ends = none_begins_nothing }) in
    absurd (omega (arith, count))

nothing_first : (opening bytes begun unused : List ℕ) → ((opening ++ bytes) ++ begun) ++ unused ≡ [] → opening ≡ []
nothing_first [] bytes begun unused e = refl
nothing_first (b ∷ opening) bytes begun unused e = cc

pub returns-clause-not_without_an_advertisement : goal.returns-clause-not_without_an_advertisement
returns-clause-not_without_an_advertisement g c = λ h.
    let all = (first_of_two [] [] _ _ h.were_read).1 in
    let none = nothing_first h.r.opening (bytes_in h.r.turns) (bytes_begun h.r.begun) h.unused all in
    let used : h.h.used ≡ [] =
    h.received.used_is ∙ ap (λ (l : List ℕ). l ++ received_in h.r.turns) none ∙ no_turns h.r.opening h.r.greeting h.r.turns none h.received.in_turn in
    let whole = subst (λ (bytes : List ℕ). IsConversation terms h.h.asked bytes h.h.events) used h.ends.answered.whole in
    let count = flushes_are terms h.h.asked [] h.h.events [] [] whole (record { spelled = refl; ends = none_begins_nothing }) in
    omega (arith, count)

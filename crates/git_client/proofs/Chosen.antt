-- Before the flush of the advertisement a conversation is the same in each object format.
use Rattle.std.proofs.Common.{arith, ◌≡◌, ◌≢◌, ◌∙◌, ℕ, Bool, true, false, List, [], ◌∷◌, ◌++◌, Option, Some, ap, cond, length, refl, subst, sym}
use Rattle.git_names.specs.declared.object_format.Format.{Format}
use Rattle.git_names.specs.declared.object_format.Format.TheVariants.{Sha1, Sha256}
use Rattle.git_pkt.specs.Packets.{Pkt, flush, delim, resp_end, payload, flushes}
use Rattle.git_pkt.specs.Splits.{Given}
use Rattle.git_pkt.specs.Machine.PacketReader.{Reads, fault_of as reader_fault_of}
use Rattle.git_pkt.specs.declared.reader.PacketReader.{PacketReader}
use Rattle.git_msg.specs.Advertisement.{is_spoken, noted_of}
use Rattle.git_msg.specs.Asked.{Asked}
use Rattle.git_msg.specs.declared.offers.Caps.{Caps}
use Rattle.git_client.specs.Parts.{Terms, Part, advertisement, closing, in_format, nearest, advertisement_of, message_of, part_after, part_of}
use Rattle.git_client.specs.Places.{Place, version, capabilities, place_of, place_after}
use Rattle.git_client.specs.Events.{EventValue, capability, Gives}
use Rattle.git_client.specs.Opened.{opened_in}
use Rattle.git_client.specs.Conversation.{GivesAt, GiveAll}
use Rattle.git_client.specs.Machine.Turns.{has_left_in, left_in, question_in}
use Rattle.git_client.specs.Machine.Client.{History, Converses, StandsIn, Goes, IsExpected, awaits_end, sent_of, spelled}
use Rattle.git_client.specs.Machine.Client.{agent_of, format_of, ending_of, caps_of, left_to_send, phase_of, reader_of, request_of}
use Rattle.git_client.specs.Machine.Choosing.{ChoosesFormat, format_by, is_advertising, may_choose}
use Rattle.git_client.specs.declared.client.Client.{Client}
use Rattle.git_client.specs.declared.events.Ending.{Ending}
use Rattle.git_client.specs.declared.phase.Phase.{Phase}
use Rattle.git_client.specs.declared.phase.Phase.TheVariants.{Receiving}
use Rattle.git_client.specs.declared.phase.Expected.{Expected}
use Rattle.git_client.specs.declared.phase.Expected.TheVariants.{Version, Capabilities, Packfile}
use Rattle.git_client.proofs.Carries.{none_of}
use Rattle.git_client.proofs.Judged.{place_is}
use Rattle.git_client.proofs.Opened.{not_opened}
use Rattle.git_client.proofs.PartSteps.{is_early, no_end, no_flush, part_expected, stands}

same_part : (format : Format) (t : Terms) (asked : List Asked) (before : List Pkt) → part_of (in_format format t) asked before ≡ part_of t asked before
same_part format t asked [] = refl
same_part format t asked (p ∷ before) = refl

-- ---- the packets so far give the same events

first_line : (format other : Format) (ending : Ending) (p : Pkt) (events : List EventValue) → Gives format ending version p events
    → Gives other ending version p events
first_line format other ending (payload line) [] gives = record { no_error = gives.no_error; conveys = gives.conveys }
first_line format other ending (payload line) (event ∷ events) gives = absurd gives.conveys
first_line format other ending flush events gives = gives
first_line format other ending delim events gives = gives
first_line format other ending resp_end events gives = gives

more_lines : (format other : Format) (ending : Ending) (spoken heard : Bool) (p : Pkt) (events : List EventValue) → flushes (p ∷ []) ≡ 0
    → Gives format ending (capabilities spoken) p events → Gives other ending (capabilities heard) p events
more_lines format other ending spoken heard (payload line) (capability key value ∷ []) none gives =
    record { no_error = gives.no_error; conveys = gives.conveys }
more_lines format other ending spoken heard (payload line) events none gives = absurd gives.conveys
more_lines format other ending spoken heard flush events none gives = absurd (omega (arith, none))
more_lines format other ending spoken heard delim events none gives = gives
more_lines format other ending spoken heard resp_end events none gives = gives

some_is : (found place : Place) → Some found ≡ Some place → found ≡ place
some_is found place e = cc

no_flush_now : (p : Pkt) (before : List Pkt) → flushes (p ∷ before) ≡ 0 → (flushes (p ∷ []) ≡ 0) × (flushes before ≡ 0)
no_flush_now flush before none = absurd (omega (arith, none))
no_flush_now p before none = (refl, none)

early_flushes : (gs : List Given) (before : List Pkt) → flushes (nearest gs before) ≡ 0 → flushes before ≡ 0
early_flushes [] before none = none
early_flushes (g ∷ gs) before none = (no_flush_now g.packet before (early_flushes gs (g.packet ∷ before) none)).1

-- before the first flush the lines of the advertisement are expected
lines_next : (t : Terms) (asked : List Asked) (p : Pkt) (before : List Pkt) → flushes (p ∷ before) ≡ 0 → part_of t asked (p ∷ before) ≡ Some advertisement
lines_next t asked p before none =
    let other : p ≢ flush = λ e. absurd (omega (arith, subst (λ (q : Pkt). flushes (q ∷ before) ≡ 0) e none)) in
    ap (λ (b : Bool). cond b (Some closing) (part_after asked (flushes (p ∷ before)))) (no_end t.ending p before other) ∙ ap (part_after asked) none

gives_too : (other : Format) (t : Terms) (asked : List Asked) (before : List Pkt) (p : Pkt) (events : List EventValue) → flushes (p ∷ before) ≡ 0
    → GivesAt t asked before p events → GivesAt (in_format other t) asked before p events
gives_too other t asked [] p events none g =
    let same : version ≡ g.place = some_is version g.place g.is_place in
    record {
      place = version;
      is_place = refl;
      gives = first_line t.format other t.ending p events (subst (λ (place : Place). Gives t.format t.ending place p events) (sym same) g.gives);
    }
gives_too other t asked (q ∷ before) p events none g =
    let (now, earlier) = no_flush_now p (q ∷ before) none in
    let message = message_of (q ∷ before) in
    let place : place_after t asked (q ∷ before) ≡ Some (capabilities (is_spoken (noted_of message) t.format)) =
    ap (λ (part : Option Part). place_of t.format part message) (lines_next t asked q before earlier) in
    let same : capabilities (is_spoken (noted_of message) t.format) ≡ g.place = some_is _ g.place (sym place ∙ g.is_place) in
    record {
      place = capabilities (is_spoken (noted_of message) other);
      is_place = ap (λ (part : Option Part). place_of other part message) (lines_next (in_format other t) asked q before earlier);
      gives = more_lines t.format other t.ending _ _ p events now
          (subst (λ (place : Place). Gives t.format t.ending place p events) (sym same) g.gives);
    }

all_give_too : (other : Format) (t : Terms) (asked : List Asked) (before : List Pkt) (gs : List Given) (events : List EventValue)
    → flushes (nearest gs before) ≡ 0 → GiveAll t asked before gs events → GiveAll (in_format other t) asked before gs events
all_give_too other t asked before [] events none is = is
all_give_too other t asked before (g ∷ gs) events none (now, later, is, gives, more) = (
  now,
  later,
  is,
  gives_too other t asked before g.packet now (early_flushes gs (g.packet ∷ before) none) gives,
  all_give_too other t asked (g.packet ∷ before) gs later none more,
)

-- ---- and the client stands as it would in that format

expected_too : (other : Format) (t : Terms) (asked : List Asked) (before : List Pkt) (expected : Expected) → IsExpected t asked before expected
    → IsExpected (in_format other t) asked before expected
expected_too other t asked before expected is = record {
  part = is.part;
  is_part = same_part other t asked before ∙ is.is_part;
  counts = is.counts;
  same_lines = is.same_lines;
  is_expected = is.is_expected;
}

-- a line of the advertisement is expected, or its flush
record ExpectsLine (phase : Phase) : Type 0 where
  expected : Expected
  receiving : phase ≡ Receiving expected
  early : (done : Bool) → is_early (part_expected done expected) ≡ true
  no_pack : expected ≢ Packfile
  no_end : awaits_end expected ≡ 0

expects_line : (phase : Phase) → is_advertising phase ≡ true → ExpectsLine phase
expects_line (Receiving Version) is = record { expected = Version; receiving = refl; early = λ done. refl; no_pack = λ e. cc; no_end = refl }
expects_line (Receiving Capabilities) is = record { expected = Capabilities; receiving = refl; early = λ done. refl; no_pack = λ e. cc; no_end = refl }
expects_line phase is = absurd (cc)

nothing_open : (t : Terms) (asked : List Asked) (before : List Pkt) (expected : Expected) (rest : List ℕ) → expected ≢ Packfile
    → IsExpected t asked before expected → opened_in (place_after t asked before) rest ≡ []
nothing_open t asked before expected rest no_pack is =
    let caps = noted_of (advertisement_of before) in
    ap (λ (place : Option Place). opened_in place rest) (place_is t asked before expected caps is refl) ∙ not_opened expected no_pack caps t.format rest

module _ {A : Type 0} (old new : Client A) where
  -- only the format may have changed
  pub record KeepsOthers : Type 0 where
    pub ending : ending_of new ≡ ending_of old
    pub agent : agent_of new ≡ agent_of old
    pub reader : reader_of new ≡ reader_of old
    pub phase : phase_of new ≡ phase_of old
    pub caps : caps_of new ≡ caps_of old
    pub request : request_of new ≡ request_of old

  pub chooses : KeepsOthers → is_advertising (phase_of old) ≡ true → (t : Terms) (h : History) → Converses t h old
      → Converses (in_format (format_of new) t) h new
  chooses keeps advertising t h c =
      let e = expects_line (phase_of old) advertising in
      let before = nearest c.clean [] in
      let u = in_format (format_of new) t in
      let goes : Goes t h.asked c.clean c.given c.rest (question_in (request_of old)) (Receiving e.expected) (reader_of old) =
      subst (λ (phase : Phase). StandsIn phase t h.asked c.clean c.given c.rest (length h.used) (question_in (request_of old)) (reader_of old)) e.receiving
      c.stands in
      let s = stands t h.asked before e.expected goes.behind in
      let none : flushes before ≡ 0 = no_flush t h.asked before _ s.is_part (e.early s.done) in
      let unasked : h.asked ≡ [] = none_of h.asked (omega (arith, none, goes.behind.counts, e.no_end)) in
      let is = expected_too (format_of new) t h.asked before e.expected goes.behind in
      let now : Goes u h.asked c.clean c.given c.rest (question_in (request_of new)) (Receiving e.expected) (reader_of new) =
      record { cut = goes.cut; sound = ap reader_fault_of keeps.reader ∙ goes.sound; behind = is; shut = λ f. absurd (cc) } in
      let sent : sent_of t (caps_of old) h.asked h.left ≡ sent_of u (caps_of new) h.asked h.left =
      ap (λ (asked : List Asked). sent_of t (caps_of old) asked h.left) unasked
      ∙ sym (ap (λ (asked : List Asked). sent_of u (caps_of new) asked h.left) unasked) in
      let unsent : left_to_send new ≡ left_to_send old =
      ap (λ (phase : Phase). left_in phase (request_of new)) keeps.phase ∙ ap (left_in (phase_of old)) keeps.request in
      record {
        given = c.given;
        rest = c.rest;
        clean = c.clean;
        format_is = refl;
        ending_is = keeps.ending ∙ c.ending_is;
        agent_is = keeps.agent ∙ c.agent_is;
        reads = subst (λ (reader : PacketReader). Reads reader 0 h.used c.given c.rest) (sym keeps.reader) c.reads;
        whole = c.whole;
        gives = all_give_too (format_of new) t h.asked [] c.clean c.whole none c.gives;
        events_are = c.events_are
            ∙ ap (λ (l : List EventValue). c.whole ++ l)
            (nothing_open t h.asked before e.expected c.rest e.no_pack goes.behind ∙ sym (nothing_open u h.asked before e.expected c.rest e.no_pack is));
        notes = keeps.caps ∙ c.notes;
        stands =
            subst (λ (phase : Phase). StandsIn phase u h.asked c.clean c.given c.rest (length h.used) (question_in (request_of new)) (reader_of new))
            (sym (keeps.phase ∙ e.receiving)) now;
        left = c.left ∙ ap has_left_in (sym keeps.phase);
        spoken = ap (λ (l : List Pkt). h.given ++ spelled l) unsent ∙ c.spoken ∙ ap spelled sent;
      }

-- a client that has no format to choose keeps the one it has
pub keeps_format : {A : Type 0} (client : Client A) → may_choose client ≡ false → ChoosesFormat client client
keeps_format client never = record {
  format = sym (ap (λ (b : Bool). cond b (format_by (caps_of client)) (format_of client)) never);
  carries = λ t h c. subst (λ (format : Format). Converses (in_format format t) h client) (sym c.format_is) c;
  stays = λ _. refl;
  any = refl;
  ending = refl;
  agent = refl;
  reader = refl;
  phase = refl;
  caps = refl;
  request = refl;
  content = refl;
}

pub format_is_spoken : (caps : Caps) (format : Format) → is_spoken caps format ≡ true → is_spoken caps (format_by caps) ≡ true
format_is_spoken caps format speaks = go (is_spoken caps Sha1) refl format speaks where
  go : (b : Bool) → is_spoken caps Sha1 ≡ b → (format : Format) → is_spoken caps format ≡ true → is_spoken caps (cond b Sha1 Sha256) ≡ true
  go true is format speaks = is
  go false is Sha1 speaks = absurd (cc)
  go false is Sha256 speaks = speaks

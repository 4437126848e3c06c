-- What a client has received and sent, by its history.
use Rattle.std.proofs.Common.{arith, ◌≡◌, ℕ, ◌-◌, true, List, [], ◌∷◌, ◌++◌, length, Option, None, inl, inr, refl, sym, ap, ◌∙◌, subst, append-nil, zero-add}
use Rattle.git_pkt.specs.Faults.{IsOpen, StopsBy}
use Rattle.git_pkt.specs.Machine.PacketReader.{fault_of as reader_fault_of}
use Rattle.git_pkt.specs.Splits.{Given, Splits}
use Rattle.git_pkt.specs.declared.fault.Kind.{Kind}
use Rattle.git_pkt.specs.declared.fault.Kind.TheVariants.{Truncated, StreamTooLong}
use Rattle.git_pkt.specs.declared.reader.PacketReader.{PacketReader}
use Rattle.git_pkt.proofs.Cuttings.{not_open}
use Rattle.git_pkt.proofs.Gathered.{open_nothing}
use Rattle.git_pkt.proofs.KnownRest.{sound_rest}
use Rattle.git_pkt.proofs.Rests.{refused_is_short}
use Rattle.git_msg.specs.Asked.{Asked}
use Rattle.git_client.specs.Parts.{Terms, nearest}
use Rattle.git_client.specs.Places.{Place, place_after}
use Rattle.git_client.specs.Events.{EventValue}
use Rattle.git_client.specs.Opened.{IsOfRest, opened_in, unless_refused}
use Rattle.git_client.specs.Conversation.{GiveAll, Sounds, HasEvents, HasNoted, HasExpected, GoesWell, GoesOn, IsConversation}
use Rattle.git_client.specs.Machine.Turns.{is_ready, takes_packets, fault_in, question_in}
use Rattle.git_client.specs.Machine.Client.{History, Converses, StandsIn, Goes, AreWhole, fault_of, can_ask, wants_input, bytes_used, phase_of, reader_of}
use Rattle.git_client.specs.Machine.Client.{caps_of, request_of, left_to_send, sent_of, spelled}
use Rattle.git_client.specs.declared.phase.Phase.{Phase}
use Rattle.git_client.specs.declared.phase.Phase.TheVariants.{Receiving, Ready, Failed}
use Rattle.git_client.specs.declared.client.Client.{Client}
use Rattle.git_client.proofs.Sequences.{gives_more}
use Rattle.git_client.proofs.Phases.{sound_where_expected}
use Rattle.git_client.proofs.Opened.{nothing_opened, opened_short}
use Rattle.git_client.proofs.Carries.{some_place}

module _ (t : Terms) (asked : List Asked) (clean given : List Given) (rest : List ℕ) (end : ℕ) (question : Option Asked) (reader : PacketReader) where
  -- a phase without an error
  pub goes_in : (phase : Phase) → fault_in phase ≡ None → StandsIn phase t asked clean given rest end question reader
      → Goes t asked clean given rest question phase reader
  goes_in (Failed fault) e h = absurd (cc)
  goes_in phase e h = h

  -- if a client can ask, all before was whole, and nothing follows it
  ready_in : (phase : Phase) → is_ready phase ≡ true → StandsIn phase t asked clean given rest end question reader
      → Goes t asked clean given rest question Ready reader
  ready_in Ready e h = h
  ready_in phase e h = absurd (cc)

  -- if packets of the server are expected, a place comes after those so far
  expected_in : (phase : Phase) → takes_packets phase ≡ true → StandsIn phase t asked clean given rest end question reader
      → HasExpected t asked (nearest clean [])
  expected_in (Receiving expected) e h = some_place t asked (nearest clean []) expected h.behind
  expected_in phase e h = absurd (cc)

abbrev pub all_clean : (t : Terms) (asked : List Asked) (bytes : List ℕ) (clean given : List Given) (rest : List ℕ) (events : List EventValue)
    → Splits 0 bytes given rest → GiveAll t asked [] clean events → given ≡ clean → Sounds t asked bytes clean events
all_clean t asked bytes clean given rest events splits gives cut = record {
  given = given;
  rest = rest;
  more = [];
  splits = splits;
  cut = cut ∙ sym (append-nil clean);
  gives = gives;
  stops = tt;
}

-- the bytes so far of an open packet count; those of a refused rest do not
module _ (t : Terms) (asked : List Asked) (bytes : List ℕ) (clean given : List Given) (rest : List ℕ) (whole : List EventValue)
    (splits : Splits 0 bytes given rest) (gives : GiveAll t asked [] clean whole) (question : Option Asked) (reader : PacketReader) where
  sounds_in : (phase : Phase) → StandsIn phase t asked clean given rest (length bytes) question reader → Sounds t asked bytes clean whole
  sounds_in (Failed fault) (inl p) =
      record { given = given; rest = rest; more = p.bad ∷ []; splits = splits; cut = p.cut; gives = gives; stops = (fault.kind, p.refused) }
  sounds_in (Failed fault) (inr (inl p)) = all_clean t asked bytes clean given rest whole splits gives p.cut
  sounds_in (Failed fault) (inr (inr p)) = all_clean t asked bytes clean given rest whole splits gives p.cut
  sounds_in phase h = all_clean t asked bytes clean given rest whole splits gives h.cut

  -- the events of the bytes, if those left are of the open packet
  made_of : (events : List EventValue) (sounds : Sounds t asked bytes clean whole)
      → events ≡ whole ++ opened_in (place_after t asked (nearest clean [])) rest
      → IsOfRest sounds.rest (unless_refused sounds.more (opened_in (place_after t asked (nearest clean [])) sounds.rest))
      (opened_in (place_after t asked (nearest clean [])) rest) → HasEvents t asked bytes events
  made_of events sounds are of_rest = record {
    clean = clean;
    whole = whole;
    opened = opened_in (place_after t asked (nearest clean [])) rest;
    sounds = sounds;
    of_rest = of_rest;
    events_are = are;
  }

  opens : (place : Option Place) → IsOpen rest → IsOfRest rest (opened_in place rest) (opened_in place rest)
  opens place still = inl (still, refl)

  closes_empty : (place : Option Place) (part : List EventValue) → rest ≡ [] → part ≡ [] → IsOfRest rest part (opened_in place rest)
  closes_empty place part none same = inl (
    subst IsOpen (sym none) open_nothing,
    ap (λ (l : List ℕ). opened_in place l) none ∙ nothing_opened place ∙ sym same,
  )

  stops_at : (place : Option Place) (p end : ℕ) (kind : Kind) (offset : ℕ) → StopsBy p rest end kind offset
      → IsOfRest rest (opened_in place rest) (opened_in place rest)
  stops_at place p end Truncated offset by = inl (by.0, refl)
  stops_at place p end StreamTooLong offset by = inl (by.0, refl)
  stops_at place p end kind offset by =
      inr (not_open p end rest kind offset (λ e. cc) (λ e. cc) by, opened_short place rest (omega (arith, refused_is_short p rest kind offset by.0 by.1)))

  pub events_in : (events : List EventValue) → events ≡ whole ++ opened_in (place_after t asked (nearest clean [])) rest
      → (fault_in_reader : reader_fault_of reader ≡ None → IsOpen rest) (phase : Phase)
      → StandsIn phase t asked clean given rest (length bytes) question reader → HasEvents t asked bytes events
  events_in events are sound (Failed fault) (inl p) =
      made_of events
      (record { given = given; rest = rest; more = p.bad ∷ []; splits = splits; cut = p.cut; gives = gives; stops = (fault.kind, p.refused) })
      are (closes_empty (place_after t asked (nearest clean [])) [] p.nothing refl)
  events_in events are sound (Failed fault) (inr (inl p)) =
      made_of events (all_clean t asked bytes clean given rest whole splits gives p.cut) are
      (stops_at (place_after t asked (nearest clean [])) (length bytes - length rest) (length bytes) fault.kind fault.offset p.by)
  events_in events are sound (Failed fault) (inr (inr p)) =
      made_of events (all_clean t asked bytes clean given rest whole splits gives p.cut) are
      (let place = place_after t asked (nearest clean []) in
      closes_empty place (opened_in place rest) p.nothing (ap (λ (l : List ℕ). opened_in place l) p.nothing ∙ nothing_opened place))
  events_in events are sound phase h =
      made_of events (all_clean t asked bytes clean given rest whole splits gives h.cut) are (opens (place_after t asked (nearest clean [])) (sound h.sound))

module _ {A : Type 0} (t : Terms) (h : History) (client : Client A) (c : Converses t h client) where
  sounds : Sounds t h.asked h.used c.clean c.whole
  sounds =
      sounds_in t h.asked h.used c.clean c.given c.rest c.whole c.reads.splits c.gives (question_in (request_of client)) (reader_of client)
      (phase_of client) c.stands

  pub has_events : HasEvents t h.asked h.used h.events
  has_events =
      events_in t h.asked h.used c.clean c.given c.rest c.whole c.reads.splits c.gives (question_in (request_of client)) (reader_of client)
      h.events c.events_are (λ sound. (sound_rest (reader_of client) 0 h.used c.given c.rest sound c.reads).1) (phase_of client) c.stands

  pub has_noted : HasNoted t h.asked h.used (caps_of client)
  has_noted = (c.clean, c.whole, sounds, c.notes)

  all_gives : c.given ≡ c.clean → GiveAll t h.asked [] c.given c.whole
  all_gives cut = subst (λ (gs : List Given). GiveAll t h.asked [] gs c.whole) (sym cut) c.gives

  all_are : c.given ≡ c.clean → h.events ≡ c.whole ++ opened_in (place_after t h.asked (nearest c.given [])) c.rest
  all_are cut =
      subst (λ (gs : List Given). h.events ≡ c.whole ++ opened_in (place_after t h.asked (nearest gs [])) c.rest) (sym cut) c.events_are

  pub goes_well : fault_of client ≡ None → GoesWell t h.asked h.used h.events
  goes_well none =
      let goes =
      goes_in t h.asked c.clean c.given c.rest (length h.used) (question_in (request_of client)) (reader_of client) (phase_of client) none c.stands in
      record {
        given = c.given;
        rest = c.rest;
        whole = c.whole;
        splits = c.reads.splits;
        sound = all_gives goes.cut;
        still_open = (sound_rest (reader_of client) 0 h.used c.given c.rest goes.sound c.reads).1;
        events_are = all_are goes.cut;
      }

  -- while the server's bytes are expected, those so far have no error, and more have to follow
  pub awaits_more : wants_input client ≡ true → GoesOn t h.asked h.used h.events
  awaits_more waits =
      let question = question_in (request_of client) in
      let sound = sound_where_expected (phase_of client) waits in
      let goes = goes_in t h.asked c.clean c.given c.rest (length h.used) question (reader_of client) (phase_of client) sound c.stands in
      let expected = expected_in t h.asked c.clean c.given c.rest (length h.used) question (reader_of client) (phase_of client) waits c.stands in
      record {
        given = c.given;
        rest = c.rest;
        whole = c.whole;
        splits = c.reads.splits;
        sound = all_gives goes.cut;
        still_open = (sound_rest (reader_of client) 0 h.used c.given c.rest goes.sound c.reads).1;
        expected = subst (λ (gs : List Given). HasExpected t h.asked (nearest gs [])) (sym goes.cut) expected;
        events_are = all_are goes.cut;
      }

  pub is_whole : can_ask client ≡ true → IsConversation t h.asked h.used h.events
  is_whole ready =
      let goes =
      ready_in t h.asked c.clean c.given c.rest (length h.used) (question_in (request_of client)) (reader_of client) (phase_of client) ready c.stands in
      let whole : AreWhole t h.asked (nearest c.given []) =
      subst (λ (gs : List Given). AreWhole t h.asked (nearest gs [])) (sym goes.cut) goes.behind in
      let none = goes.shut refl in
      let events : h.events ≡ c.whole =
      c.events_are
      ∙ ap (λ (rest : List ℕ). c.whole ++ opened_in (place_after t h.asked (nearest c.clean [])) rest) none
      ∙ ap (λ (l : List EventValue). c.whole ++ l) (nothing_opened (place_after t h.asked (nearest c.clean [])))
      ∙ append-nil c.whole in
      record {
        given = c.given;
        splits = subst (λ (rest : List ℕ). Splits 0 h.used c.given rest) none c.reads.splits;
        gives = subst (GiveAll t h.asked [] c.given) (sym events) (all_gives goes.cut);
        all_flushes = whole.all_flushes;
        no_end_expected = whole.no_end_expected;
      }

  pub position_is : bytes_used client ≡ length h.used
  position_is = c.reads.position ∙ zero-add (length h.used)

  pub all_is_sent : left_to_send client ≡ [] → h.given ≡ spelled (sent_of t (caps_of client) h.asked h.left)
  all_is_sent nothing = sym (append-nil h.given) ∙ ap (λ l. h.given ++ spelled l) (sym nothing) ∙ c.spoken

pub later_questions : (t : Terms) (asked more : List Asked) (bytes : List ℕ) (events : List EventValue) → IsConversation t asked bytes events
    → HasEvents t (asked ++ more) bytes events
later_questions t asked more bytes events h =
    record {
      clean = h.given;
      whole = events;
      opened = [];
      sounds = all_clean t (asked ++ more) bytes h.given h.given [] events h.splits (gives_more t asked more [] h.given events h.gives) refl;
      of_rest = inl (open_nothing, sym (nothing_opened (place_after t (asked ++ more) (nearest h.given []))));
      events_are = sym (append-nil events);
    }

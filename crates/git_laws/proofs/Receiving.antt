-- How a client advances from packet to packet of an answer.
use Rattle.std.proofs.Common.{◌≡◌, ℕ, Bool, true, false, All, map, List, [], ◌∷◌, ◌++◌, None, Some, Ok, refl, ap, sym, ◌∙◌, subst}
use Rattle.std.proofs.Common.{append_assoc, slice_index, ◌≢◌}
use Rattle.std.proofs.lemmas.List.{map-append}
use Rattle.std.proofs.lemmas.List.Elements.{All-head, All-tail}
use Rattle.git_names.specs.declared.object_format.Format.{Format}
use Rattle.git_pkt.specs.Packets.{Pkt, flush, resp_end, payload, text_of}
use Rattle.git_pkt.specs.Splits.{Given}
use Rattle.git_pkt.specs.Bands.{AreBands, band_packet}
use Rattle.git_pkt.specs.declared.band.Band.TheVariants.{Pack as PackBand}
use Rattle.git_pkt.proofs.Texts.{text_of-line_end}
use Rattle.git_msg.specs.Advertisement.{noted_of}
use Rattle.git_msg.specs.Asked.{Asked}
use Rattle.git_msg.specs.Texts.{IsErrorText}
use Rattle.git_msg.specs.WrittenRequest.{text_line}
use Rattle.git_msg.specs.declared.agent.Agent.{Agent}
use Rattle.git_msg.specs.declared.offers.Caps.{Caps}
use Rattle.git_client.specs.Machine.Client.{AreWhole, Behind, IsExpected, IsExpectedIn, awaits_end}
use Rattle.git_client.specs.Conversation.{GiveAll, GivesAt}
use Rattle.git_client.specs.Events.{EventValue, ended, ended_by, events_of_flush, pack, section, Gives, GivesLine}
use Rattle.git_client.specs.Parts.{Terms, advertisement_of, message_of, nearest, terms_by}
use Rattle.git_client.specs.Sections.{allows, section_named}
use Rattle.git_client.specs.Machine.Turns.{NotesAfter, expected_after_header, phase_after, phase_after_response, place_expected}
use Rattle.git_client.specs.declared.events.Ending.{Ending}
use Rattle.git_client.specs.declared.events.Ending.TheVariants.{FlushOnly, ResponseEnd as WithResponseEnd}
use Rattle.git_client.specs.declared.phase.Expected.{Expected}
use Rattle.git_client.specs.declared.phase.Expected.TheVariants.{Acknowledgments, Header, Packfile, References, ShallowInfo, Sizes, WantedRefs, ResponseEnd}
use Rattle.git_client.specs.declared.sections.Allowed.{Allowed}
use Rattle.git_client.specs.declared.sections.Section.{Section}
use Rattle.git_client.proofs.Judged.{gives_well, place_is}
use Rattle.git_client.proofs.PartSteps.{expected_after, next_part, part_expected, stands}
use Rattle.git_client.proofs.SectionSteps.{allowed_stays, inside_more}
use Rattle.git_laws.specs.AnnouncedAnswers.{end_packets, packets_of}

-- a text whose first byte is not `E` is not that of an error packet
pub no_error : (text : List ℕ) → slice_index text 0 ≢ 69 → ¬ IsErrorText text
no_error text other error = other (ap (λ (xs : List ℕ). slice_index xs 0) error.spelled)

-- what is expected is a line of a list, in which any line may follow any other
abbrev pub IsOfLines : Expected → Type 0
IsOfLines References = Unit {0}
IsOfLines (ShallowInfo allowed) = Unit {0}
IsOfLines (WantedRefs allowed) = Unit {0}
IsOfLines Sizes = Unit {0}
IsOfLines expected = ⊥

-- a flush may come
abbrev pub MayEnd : Expected → Type 0
MayEnd References = Unit {0}
MayEnd (Acknowledgments announced) = announced.ready ≡ false
MayEnd Packfile = Unit {0}
MayEnd Sizes = Unit {0}
MayEnd expected = ⊥

-- while such lines are expected no response end is; after a line they are still expected, and a line gives the events of its text
line_stays : (done : Bool) (message : List Pkt) (format : Format) (ending : Ending) (caps : Caps) (expected : Expected) (line : List ℕ) (now : List EventValue)
    → IsOfLines expected
    → (awaits_end expected ≡ 0) × (IsExpectedIn (part_expected done expected) message expected
    → IsExpectedIn (next_part (part_expected done expected)) (payload line ∷ message) expected)
    × (GivesLine (place_expected caps format expected) format (text_of line) now → Gives format ending (place_expected caps format expected) (payload line) now)
line_stays done message format ending caps References line now of = (refl, (λ is. tt), (λ gives. gives))
line_stays done message format ending caps Sizes line now of = (refl, (λ is. refl), (λ gives. gives))
line_stays done message format ending caps (ShallowInfo allowed) line now of =
    (refl, (λ is. (inside_more _ message line is.0, is.1 ∙ sym (allowed_stays done (payload line) message is.0.inside))), (λ gives. gives))
line_stays done message format ending caps (WantedRefs allowed) line now of =
    (refl, (λ is. (inside_more _ message line is.0, is.1 ∙ sym (allowed_stays done (payload line) message is.0.inside))), (λ gives. gives))
line_stays done message format ending caps expected line now of = absurd of

-- a flush that may come notes nothing, and ends the response
flush_ends : (ending : Ending) (caps : Caps) (format : Format) (expected : Expected) → MayEnd expected
    → (events_of_flush ending (place_expected caps format expected) ≡ Ok (ended_by ending)) × NotesAfter expected caps flush caps
    × (phase_after ending expected flush ≡ phase_after_response ending)
flush_ends ending caps format References may = (refl, refl, refl)
flush_ends ending caps format (Acknowledgments announced) may = (rw may refl, refl, refl)
flush_ends ending caps format Packfile may = (refl, refl, refl)
flush_ends ending caps format Sizes may = (refl, refl, refl)
flush_ends ending caps format expected may = absurd may

module _ (t : Terms) (asked : List Asked) where
  -- the packets of the rest of an answer, after those before them, have no error and give these events, in order, and then the answer is whole
  abbrev pub AnswerGives : List Pkt → List Pkt → List EventValue → Type 0
  AnswerGives before [] events = (events ≡ []) × AreWhole t asked before
  AnswerGives before (p ∷ ps) events =
      (now : List EventValue) × (later : List EventValue) × (events ≡ now ++ later) × GivesAt t asked before p now × AnswerGives (p ∷ before) ps later

  -- they give these events at any offset
  pub given_give : (before : List Pkt) (gs : List Given) (events : List EventValue) → AnswerGives before (packets_of gs) events
      → GiveAll t asked before gs events
  given_give before [] events (e, whole) = e
  given_give before (g ∷ gs) events (now, later, e, at, rest) = (now, later, e, at, given_give (g.packet ∷ before) gs later rest)

  -- and then the answer is whole
  pub given_whole : (before : List Pkt) (gs : List Given) (events : List EventValue) → AnswerGives before (packets_of gs) events
      → AreWhole t asked (nearest gs before)
  given_whole before [] events (e, whole) = whole
  given_whole before (g ∷ gs) events (now, later, e, at, rest) = given_whole (g.packet ∷ before) gs later rest

  -- what the advertisement notes
  abbrev pub caps_at : List Pkt → Caps
  caps_at before = noted_of (advertisement_of before)

  -- a text line gives the events of its text
  pub of_text : (expected : Expected) (caps : Caps) (text : List ℕ) (now : List EventValue)
      → GivesLine (place_expected caps t.format expected) t.format text now
      → GivesLine (place_expected caps t.format expected) t.format (text_of (text ++ 10 ∷ [])) now
  of_text expected caps text now gives =
      rw (text_of-line_end text) gives

  -- one packet without an error, and then the others
  pub packet_gives : (before : List Pkt) (expected : Expected) (p : Pkt) (now : List EventValue) (ps : List Pkt) (later : List EventValue)
      → IsExpected t asked before expected
      → Gives t.format t.ending (place_expected (caps_at before) t.format expected) p now → NotesAfter expected (caps_at before) p (caps_at before)
      → (Behind t asked (p ∷ before) None (phase_after t.ending expected p) → AnswerGives (p ∷ before) ps later) → AnswerGives before (p ∷ ps) (now ++ later)
  packet_gives before expected p now ps later is gives notes others =
      let given = gives_well t asked before expected (caps_at before) (caps_at before) p now is refl gives notes in
      (now, later, refl, given.0, others given.2)

  -- lines that each give one event, and then the others
  pub lines_give : {X : Type 0} (text : X → List ℕ) (event : X → EventValue) (expected : Expected) → IsOfLines expected → (xs : List X) (before ps : List Pkt)
      (later : List EventValue) → IsExpected t asked before expected
      → ((caps : Caps) → All (λ x. GivesLine (place_expected caps t.format expected) t.format (text x) (event x ∷ [])) xs)
      → ((behind : List Pkt) → IsExpected t asked behind expected → AnswerGives behind ps later)
      → AnswerGives before (map (λ x. text_line (text x)) xs ++ ps) (map event xs ++ later)
  lines_give text event expected of [] before ps later is gives others = others before is
  lines_give text event expected of (x ∷ xs) before ps later is gives others =
      let caps = caps_at before in
      let bytes = text x ++ 10 ∷ [] in
      let s = stands t asked before expected is in
      let one : GivesLine (place_expected caps t.format expected) t.format (text x) (event x ∷ []) =
      All-head (λ y. GivesLine (place_expected caps t.format expected) t.format (text y) (event y ∷ [])) x xs (gives caps) in
      let (shut, leaves, conveys) = line_stays s.done (message_of before) t.format t.ending caps expected bytes (event x ∷ []) of in
      let next : IsExpected t asked (payload bytes ∷ before) expected =
      expected_after t asked before expected expected (payload bytes) tt shut is s (leaves s.is_expected) in (
        event x ∷ [],
        map event xs ++ later,
        refl,
        record {
          place = place_expected caps t.format expected;
          is_place = place_is t asked before expected caps is refl;
          gives = conveys (of_text expected caps (text x) (event x ∷ []) one);
        },
        lines_give text event expected of xs (payload bytes ∷ before) ps later next
            (λ caps. All-tail (λ y. GivesLine (place_expected caps t.format expected) t.format (text y) (event y ∷ [])) x xs (gives caps)) others,
      )

  -- the header of a section that may begin, and then the others
  pub header_gives : (text : List ℕ) (begun : Section) (allowed : Allowed) (expected : Expected) (before ps : List Pkt) (later : List EventValue)
      → IsExpected t asked before (Header allowed)
      → ¬ IsErrorText text → section_named text ≡ Some begun → allows allowed begun ≡ true
      → expected_after_header allowed (section_named text) ≡ expected
      → (IsExpected t asked (text_line text ∷ before) expected → AnswerGives (text_line text ∷ before) ps later)
      → AnswerGives before (text_line text ∷ ps) (section begun ∷ later)
  header_gives text begun allowed expected before ps later is clean named may next others =
      packet_gives before (Header allowed) (text_line text) (section begun ∷ []) ps later is
      (of_text (Header allowed) (caps_at before) text (section begun ∷ []) (record { no_error = clean; conveys = (named, may) })) refl
      (λ behind. others (rw (text_of-line_end text, next) at behind))

  -- packets of the pack's band, and then the others
  pub bands_give : (bands : List Pkt) (bytes : List ℕ) (before ps : List Pkt) (later : List EventValue) → AreBands PackBand bytes bands
      → IsExpected t asked before Packfile → ((behind : List Pkt) → IsExpected t asked behind Packfile → AnswerGives behind ps later)
      → AnswerGives before (bands ++ ps) (map pack bytes ++ later)
  bands_give [] bytes before ps later none is others =
      subst (λ (l : List ℕ). AnswerGives before ps (map pack l ++ later)) (sym none) (others before is)
  bands_give (p ∷ bands) bytes before ps later (part, more, cut, some, few, same, rest) is others =
      let events : map pack bytes ++ later ≡ map pack part ++ (map pack more ++ later) =
      ap (λ (l : List ℕ). map pack l ++ later) cut ∙ ap (λ (l : List EventValue). l ++ later) (map-append pack part more)
      ∙ append_assoc (map pack part) (map pack more) later in
      let one = packet_gives before Packfile (band_packet PackBand part) (map pack part) (bands ++ ps) (map pack more ++ later) is refl refl
      (λ behind. bands_give bands more (band_packet PackBand part ∷ before) ps later rest behind others) in
      subst (λ (l : List EventValue). AnswerGives before (p ∷ (bands ++ ps)) l) (sym events)
      (subst (λ (q : Pkt). AnswerGives before (q ∷ (bands ++ ps)) (map pack part ++ (map pack more ++ later))) (sym same) one)

-- the flush that ends an answer, and the response end after it if there is one
pub end_gives : (agent : Agent) (format : Format) (ending : Ending) (asked : List Asked) (before : List Pkt) (expected : Expected) → MayEnd expected
    → let t = terms_by agent format ending in IsExpected t asked before expected → AnswerGives t asked before (flush ∷ end_packets ending) (ended ∷ [])
end_gives agent format FlushOnly asked before expected may is =
    let t = terms_by agent format FlushOnly in
    let (conveys, notes, after) = flush_ends FlushOnly (caps_at t asked before) format expected may in
    packet_gives t asked before expected flush (ended ∷ []) [] [] is conveys notes (λ behind. (refl, rw after at behind))
end_gives agent format WithResponseEnd asked before expected may is =
    let t = terms_by agent format WithResponseEnd in
    let (conveys, notes, after) = flush_ends WithResponseEnd (caps_at t asked before) format expected may in
    packet_gives t asked before expected flush [] (resp_end ∷ []) (ended ∷ []) is conveys notes
    (λ behind. packet_gives t asked (flush ∷ before) ResponseEnd resp_end (ended ∷ []) [] [] (rw after at behind) refl refl (λ behind. (refl, behind)))

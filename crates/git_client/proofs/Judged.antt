-- The judge of packets finds what a packet gives, or why it is refused, whatever came before.
use Rattle.std.proofs.Common.{arith, ◌≡◌, ℕ, suc, Bool, true, false, not, List, [], ◌∷◌, length, Option, Some, None, ap}
use Rattle.std.proofs.Common.{cond, codes, refl, sym, ◌∙◌, subst}
use Rattle.git_names.specs.declared.object_format.Format.{Format}
use Rattle.git_pkt.specs.Packets.{Pkt, flush, delim, resp_end, payload, text_of, body_of, flushes}
use Rattle.git_pkt.specs.declared.fault.Kind.{Kind}
use Rattle.git_msg.specs.Advertisement.{noted_of, is_spoken}
use Rattle.git_msg.specs.Asked.{Asked}
use Rattle.git_msg.specs.declared.offers.Caps.{Caps}
use Rattle.git_msg.specs.declared.agent.Agent.{Agent}
use Rattle.git_client.specs.Parts.{Terms, terms_by, Part, sections, closing, advertisement_of, message_of, is_end_expected, is_zero, part_after}
use Rattle.git_client.specs.Places.{version, capabilities, header, acknowledgments, size_line, sizes, place_in, place_of, place_after}
use Rattle.git_client.specs.Events.{EventValue, section, Gives, Refuses, MeansEvents}
use Rattle.git_client.specs.Conversation.{GivesAt, RefusesAt}
use Rattle.git_client.specs.Sections.{section_named, lines_of, may_begin, acks_in, acks_with}
use Rattle.git_client.specs.Machine.Turns.{NotesAfter, IsTurn, events_at, place_expected, expected_after_line, expected_after_delimiter}
use Rattle.git_client.specs.Machine.Turns.{phase_after, phase_after_response, phase_in}
use Rattle.git_client.specs.Machine.Client.{IsExpected, IsExpectedIn, IsInside, AreWhole, Behind, awaits_end}
use Rattle.git_client.specs.declared.sections.Section.{Section}
use Rattle.git_client.specs.declared.sections.Allowed.{Allowed}
use Rattle.git_client.specs.declared.sections.Acks.{Acks}
use Rattle.git_client.specs.declared.events.Ending.{Ending}
use Rattle.git_client.specs.declared.events.Ending.TheVariants.{FlushOnly, ResponseEnd as WithResponseEnd}
use Rattle.git_client.specs.declared.phase.Expected.{Expected}
use Rattle.git_client.specs.declared.phase.Expected.TheVariants.{Version, Capabilities, References, Header, Acknowledgments, ShallowInfo, WantedRefs}
use Rattle.git_client.specs.declared.phase.Expected.TheVariants.{Packfile, SizeLine, Sizes, ResponseEnd}
use Rattle.git_client.specs.declared.phase.LineContent.{LineContent}
use Rattle.git_client.specs.declared.phase.Turn.{Turn}
use Rattle.git_client.proofs.PartSteps.{is_early, next_part, part_expected, awaits_where, goes_on, no_flush, Stands, stands, no_end, GoesInto, expected_after}
use Rattle.git_client.proofs.Sequences.{advertisement_more}
use Rattle.git_client.proofs.SectionSteps.{inside_more, allowed_stays, header_expected}

place_inside : (format : Format) (done : Bool) (message : List Pkt) (begun : Section) → IsInside begun message
    → place_of format (Some (sections done)) message ≡ place_in (Some begun) (lines_of message)
place_inside format done message begun inside = rw (inside.inside, inside.begun) refl

place_where : (format : Format) (done : Bool) (message : List Pkt) (expected : Expected) (caps : Caps)
    → (is_early (part_expected done expected) ≡ true → caps ≡ noted_of message) → IsExpectedIn (part_expected done expected) message expected
    → place_of format (Some (part_expected done expected)) message ≡ Some (place_expected caps format expected)
place_where format done message Version caps notes is = refl
place_where format done message Capabilities caps notes is = ap (λ (c : Caps). Some (capabilities (is_spoken c format))) (sym (notes refl))
place_where format done message References caps notes is = refl
place_where format done message (Header allowed) caps notes (expected, is) = rw expected (ap (λ (a : Allowed). Some (header a)) (sym is))
place_where format done message (Acknowledgments announced) caps notes (inside, announced_is, allowed_is) =
    place_inside format done message _ inside ∙ ap (λ (t : Acks). Some (acknowledgments t)) (sym announced_is)
place_where format done message (ShallowInfo allowed) caps notes (inside, is) = place_inside format done message _ inside
place_where format done message (WantedRefs allowed) caps notes (inside, is) = place_inside format done message _ inside
place_where format done message Packfile caps notes inside = place_inside format done message _ inside
place_where format done message SizeLine caps notes is = ap (λ (b : Bool). cond b (Some size_line) (Some sizes)) is
place_where format done message Sizes caps notes is = ap (λ (b : Bool). cond b (Some size_line) (Some sizes)) is
place_where format done message ResponseEnd caps notes is = refl

-- the packets so far determine the place that is expected next
pub place_is : (t : Terms) (asked : List Asked) (before : List Pkt) (expected : Expected) (caps : Caps) → IsExpected t asked before expected
    → caps ≡ noted_of (advertisement_of before) → place_after t asked before ≡ Some (place_expected caps t.format expected)
place_is t asked before expected caps is notes =
    let s = stands t asked before expected is in
    let early : is_early (part_expected s.done expected) ≡ true → caps ≡ noted_of (message_of before) =
    λ early. notes ∙ ap noted_of (sym (is.same_lines (no_flush t asked before (part_expected s.done expected) s.is_part early))) in
    ap (λ (part : Option Part). place_of t.format part (message_of before)) s.is_part
    ∙ place_where t.format s.done (message_of before) expected caps early s.is_expected

-- a line in the place of a header names a section that may begin
header_may_begin : (allowed : Allowed) (format : Format) (text : List ℕ) (events : List EventValue) → MeansEvents (header allowed) format text events
    → may_begin allowed (section_named text) ≡ true
header_may_begin allowed format text (section begun ∷ []) conveys = ap (may_begin allowed) conveys.0 ∙ conveys.1
header_may_begin allowed format text events conveys = absurd conveys

line_expected : (format : Format) (ending : Ending) (caps : Caps) (done : Bool) (message : List Pkt) (expected : Expected) (line : List ℕ)
    (events : List EventValue)
    → IsExpectedIn (part_expected done expected) message expected → Gives format ending (place_expected caps format expected) (payload line) events
    → IsExpectedIn (next_part (part_expected done expected)) (payload line ∷ message) (expected_after_line expected (text_of line))
line_expected format ending caps done message Version line events is gives = tt
line_expected format ending caps done message Capabilities line events is gives = tt
line_expected format ending caps done message References line events is gives = tt
line_expected format ending caps done message (Header allowed) line events is gives =
    header_expected done message allowed line is (header_may_begin allowed format (text_of line) events gives.conveys)
line_expected format ending caps done message (Acknowledgments announced) line events (inside, announced_is, allowed_is) gives = (
  inside_more _ message line inside,
  ap (λ (t : Acks). acks_with t (text_of line)) announced_is ∙ ap (λ (b : Bool). acks_in (cond b [] (payload line ∷ lines_of message))) (sym inside.inside),
  allowed_stays done (payload line) message inside.inside ∙ allowed_is,
)
line_expected format ending caps done message (ShallowInfo allowed) line events (inside, is) gives =
    (inside_more _ message line inside, is ∙ sym (allowed_stays done (payload line) message inside.inside))
line_expected format ending caps done message (WantedRefs allowed) line events (inside, is) gives =
    (inside_more _ message line inside, is ∙ sym (allowed_stays done (payload line) message inside.inside))
line_expected format ending caps done message Packfile line events inside gives = inside_more _ message line inside
line_expected format ending caps done message SizeLine line events is gives = refl
line_expected format ending caps done message Sizes line events is gives = refl
line_expected format ending caps done message ResponseEnd line events is gives = absurd gives

delimiter_expected : (format : Format) (ending : Ending) (caps : Caps) (done : Bool) (message : List Pkt) (expected : Expected) (events : List EventValue)
    → IsExpectedIn (part_expected done expected) message expected → Gives format ending (place_expected caps format expected) delim events
    → IsExpectedIn (next_part (part_expected done expected)) (delim ∷ message) (expected_after_delimiter expected)
delimiter_expected format ending caps done message (Acknowledgments announced) events (inside, announced_is, allowed_is) gives =
    (refl, sym (allowed_stays done delim message inside.inside ∙ allowed_is))
delimiter_expected format ending caps done message (ShallowInfo allowed) events (inside, is) gives =
    (refl, is ∙ sym (allowed_stays done delim message inside.inside))
delimiter_expected format ending caps done message (WantedRefs allowed) events (inside, is) gives =
    (refl, is ∙ sym (allowed_stays done delim message inside.inside))
delimiter_expected format ending caps done message expected events is gives = absurd (cc)

-- inside a message no response end is expected
not_last : (format : Format) (ending : Ending) (caps : Caps) (expected : Expected) (p : Pkt) (events : List EventValue) → GoesInto p
    → Gives format ending (place_expected caps format expected) p events → awaits_end expected ≡ 0
not_last format ending caps ResponseEnd (payload line) events goes gives = absurd gives
not_last format ending caps ResponseEnd delim events goes gives = absurd (cc)
not_last format ending caps ResponseEnd flush events goes gives = absurd goes
not_last format ending caps ResponseEnd resp_end events goes gives = absurd goes
not_last format ending caps expected p events goes gives = refl

response_over : (agent : Agent) (format : Format) (ending : Ending) (asked : List Asked) (before : List Pkt) → flushes before ≡ length asked
    → is_zero (flushes before) ≡ false → Behind (terms_by agent format ending) asked (flush ∷ before) None (phase_after_response ending)
response_over agent format FlushOnly asked before counts some = record { all_flushes = ap suc counts; no_end_expected = refl; no_message = refl }
response_over agent format WithResponseEnd asked before counts some = record {
  part = closing;
  is_part = ap (λ (b : Bool). cond (not b) (Some closing) (part_after asked (suc (flushes before)))) some;
  counts = omega arith;
  same_lines = λ none. absurd (omega arith);
  is_expected = tt;
}

-- after the flush of a response it is over, or its response end is expected
response_flush : (t : Terms) (asked : List Asked) (before : List Pkt) (expected : Expected) → IsExpected t asked before expected
    → (s : Stands t asked before expected)
    → awaits_end expected ≡ 0 → is_early (part_expected s.done expected) ≡ false → Behind t asked (flush ∷ before) None (phase_after_response t.ending)
response_flush t asked before expected is s none late =
    let goes = goes_on t asked before (part_expected s.done expected) s.is_part (sym (awaits_where s.done expected) ∙ none) in
    response_over t.agent t.format t.ending asked before (omega (arith, is.counts)) (goes.early ∙ late)

no_end_yet : (ending : Ending) (before : List Pkt) → flushes before ≡ 0 → is_end_expected ending (flush ∷ before) ≡ false
no_end_yet FlushOnly before none = refl
no_end_yet WithResponseEnd before none = ap (λ (n : ℕ). not (is_zero n)) none

flush_expected : (t : Terms) (asked : List Asked) (before : List Pkt) (expected : Expected) (caps : Caps) (events : List EventValue)
    → IsExpected t asked before expected
    → (s : Stands t asked before expected) → Gives t.format t.ending (place_expected caps t.format expected) flush events
    → Behind t asked (flush ∷ before) None (phase_after t.ending expected flush)
flush_expected t asked before Capabilities caps events is s gives = record {
  all_flushes = omega (arith, is.counts);
  no_end_expected = no_end_yet t.ending before (no_flush t asked before _ s.is_part refl);
  no_message = refl;
}
flush_expected t asked before References caps events is s gives = response_flush t asked before References is s refl refl
flush_expected t asked before (Acknowledgments announced) caps events is s gives = response_flush t asked before (Acknowledgments announced) is s refl refl
flush_expected t asked before Packfile caps events is s gives = response_flush t asked before Packfile is s refl refl
flush_expected t asked before SizeLine caps events is s gives = response_flush t asked before SizeLine is s refl refl
flush_expected t asked before Sizes caps events is s gives = response_flush t asked before Sizes is s refl refl
flush_expected t asked before expected caps events is s gives = absurd (cc)

end_expected : (t : Terms) (asked : List Asked) (before : List Pkt) (expected : Expected) (caps : Caps) (events : List EventValue)
    → IsExpected t asked before expected
    → Gives t.format t.ending (place_expected caps t.format expected) resp_end events → AreWhole t asked (resp_end ∷ before)
end_expected t asked before ResponseEnd caps events is gives =
    record { all_flushes = omega (arith, is.counts); no_end_expected = no_end t.ending resp_end before (λ e. cc); no_message = refl }
end_expected t asked before expected caps events is gives = absurd (cc)

behind_after : (t : Terms) (asked : List Asked) (before : List Pkt) (expected : Expected) (caps : Caps) (p : Pkt) (events : List EventValue)
    → IsExpected t asked before expected → (s : Stands t asked before expected) → Gives t.format t.ending (place_expected caps t.format expected) p events
    → Behind t asked (p ∷ before) None (phase_after t.ending expected p)
behind_after t asked before expected caps (payload line) events is s gives =
    expected_after t asked before expected _ (payload line) tt (not_last t.format t.ending caps expected (payload line) events tt gives) is s
    (line_expected t.format t.ending caps s.done (message_of before) expected line events s.is_expected gives)
behind_after t asked before expected caps delim events is s gives =
    expected_after t asked before expected _ delim tt (not_last t.format t.ending caps expected delim events tt gives) is s
    (delimiter_expected t.format t.ending caps s.done (message_of before) expected events s.is_expected gives)
behind_after t asked before expected caps flush events is s gives = flush_expected t asked before expected caps events is s gives
behind_after t asked before expected caps resp_end events is s gives = end_expected t asked before expected caps events is gives

version_stated : (format : Format) (text : List ℕ) (events : List EventValue) → MeansEvents version format text events → text ≡ codes "version 2"
version_stated format text [] conveys = conveys
version_stated format text (event ∷ events) conveys = absurd conveys

-- the line `version 2` notes nothing
version_notes : (line : List ℕ) (packets : List Pkt) → text_of line ≡ codes "version 2" → noted_of (payload line ∷ packets) ≡ noted_of packets
version_notes line packets conveys = rw conveys refl

-- a packet that notes nothing leaves the noted capabilities unchanged
nothing_noted : (p : Pkt) (before : List Pkt) → noted_of (p ∷ advertisement_of before) ≡ noted_of (advertisement_of before)
    → noted_of (advertisement_of (p ∷ before)) ≡ noted_of (advertisement_of before)
nothing_noted p before same = go (is_zero (flushes before)) where
  go : (b : Bool) → noted_of (cond b (p ∷ advertisement_of before) (advertisement_of before)) ≡ noted_of (advertisement_of before)
  go true = same
  go false = refl

notes_after : (t : Terms) (asked : List Asked) (before : List Pkt) (expected : Expected) (caps after : Caps) (p : Pkt) (events : List EventValue)
    → Stands t asked before expected → Gives t.format t.ending (place_expected caps t.format expected) p events → NotesAfter expected caps p after
    → caps ≡ noted_of (advertisement_of before) → after ≡ noted_of (advertisement_of (p ∷ before))
notes_after t asked before Version caps after (payload line) events s gives same notes =
    let conveys = version_stated t.format (text_of line) events gives.conveys in
    same ∙ notes ∙ sym (nothing_noted (payload line) before (version_notes line (advertisement_of before) conveys))
notes_after t asked before Capabilities caps after (payload line) events s gives adds notes =
    adds (advertisement_of before) notes ∙ ap noted_of (sym (advertisement_more (payload line) before (no_flush t asked before _ s.is_part refl)))
notes_after t asked before ResponseEnd caps after (payload line) events s gives same notes = absurd gives
notes_after t asked before expected caps after (payload line) events s gives same notes =
    let late = (goes_on t asked before (part_expected s.done expected) s.is_part refl).early in
    same ∙ notes ∙ ap (λ (b : Bool). noted_of (cond b (payload line ∷ advertisement_of before) (advertisement_of before))) (sym late)
notes_after t asked before expected caps after p events s gives same notes = same ∙ notes ∙ sym (nothing_noted p before refl)

-- a packet that gives events at this place leads to what is expected after it
pub gives_well : (t : Terms) (asked : List Asked) (before : List Pkt) (expected : Expected) (caps after : Caps) (p : Pkt) (events : List EventValue)
    → IsExpected t asked before expected → caps ≡ noted_of (advertisement_of before) → Gives t.format t.ending (place_expected caps t.format expected) p events
    → NotesAfter expected caps p after
    → GivesAt t asked before p events × (after ≡ noted_of (advertisement_of (p ∷ before))) × Behind t asked (p ∷ before) None (phase_after t.ending expected p)
gives_well t asked before expected caps after p events is notes gives adds =
    let s = stands t asked before expected is in (
      record { place = place_expected caps t.format expected; is_place = place_is t asked before expected caps is notes; gives = gives },
      notes_after t asked before expected caps after p _ s gives adds notes,
      behind_after t asked before expected caps p _ is s gives,
    )

-- a packet without an error gives the events that were found in it, and leads to the phase that was found
pub judged_well : (t : Terms) (asked : List Asked) (before : List Pkt) (expected : Expected) (caps : Caps) (p : Pkt) (content : LineContent) (after : Caps)
    (turn : Turn)
    → IsExpected t asked before expected → caps ≡ noted_of (advertisement_of before) → IsTurn t.format t.ending expected caps p content after turn
    → GivesAt t asked before p (events_at content (body_of p)) × (after ≡ noted_of (advertisement_of (p ∷ before)))
    × Behind t asked (p ∷ before) None (phase_in turn)
judged_well t asked before expected caps p content after turn is notes judged =
    let (gives, noted, behind) =
    gives_well t asked before expected caps after p (events_at content (body_of p)) is notes judged.gives judged.notes in
    (gives, noted, subst (Behind t asked (p ∷ before) None) (sym judged.next) behind)

-- a packet with an error is refused for it
pub judged_badly : (t : Terms) (asked : List Asked) (before : List Pkt) (expected : Expected) (caps : Caps) (p : Pkt) (kind : Kind)
    → IsExpected t asked before expected
    → caps ≡ noted_of (advertisement_of before) → Refuses t.format t.ending (place_expected caps t.format expected) p kind → RefusesAt t asked before p kind
judged_badly t asked before expected caps p kind is notes refuses =
    record { place = place_expected caps t.format expected; is_place = place_is t asked before expected caps is notes; refuses = refuses }

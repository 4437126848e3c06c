-- A client hands out no more events than it has used bytes.
use Rattle.std.proofs.Common.{arith, ◌≡◌, ℕ, ◌+◌, ◌≤◌, ◌==◌, Bool, true, false, List, [], ◌∷◌, ◌++◌, length, map, cond}
use Rattle.std.proofs.Common.{Option, Result, Ok, Err, inl, inr, ap, subst, length-append}
use Rattle.std.proofs.lemmas.List.{length-map}
use Rattle.git_names.specs.declared.object_format.Format.{Format}
use Rattle.git_pkt.specs.Packets.{Pkt, flush, delim, resp_end, payload, body_of, text_of}
use Rattle.git_pkt.specs.Splits.{Given, SpellsAll}
use Rattle.git_pkt.specs.Faults.{last_position}
use Rattle.git_pkt.specs.declared.fault.Kind.{Kind}
use Rattle.git_pkt.specs.declared.fault.Kind.TheVariants.{RemoteFatal, BadBand}
use Rattle.git_pkt.proofs.Spelling.{spelled_length}
use Rattle.git_msg.specs.Asked.{Asked}
use Rattle.git_client.specs.declared.events.Ending.{Ending}
use Rattle.git_client.specs.declared.events.Ending.TheVariants.{FlushOnly, ResponseEnd}
use Rattle.git_client.specs.Parts.{Terms, nearest}
use Rattle.git_client.specs.Places.{Place, version, capabilities, references, header, acknowledgments, shallow_info, wanted_refs, packfile}
use Rattle.git_client.specs.Places.{size_line, sizes, response_end, place_after}
use Rattle.git_client.specs.Events.{EventValue, pack, progress, Gives, ended_by, events_of_band, events_of_flush, events_of_delimiter, events_of_response_end}
use Rattle.git_client.specs.Opened.{IsOfRest, opened_in, unless_refused}
use Rattle.git_client.specs.Conversation.{GiveAll, HasEvents}
use Rattle.git_client.specs.Machine.Client.{History, Converses}
use Rattle.git_client.specs.declared.client.Client.{Client}
use Rattle.git_client.proofs.PlaceLines.{ReadsLine, boundary_event, line_read}
use Rattle.git_client.proofs.Opened.{few_opened}
use Rattle.git_client.proofs.EventsReceived.{has_events}

-- ---- the events of a packet: at most one, or on a band one for each byte

of_one : (one events : List EventValue) → events ≡ one → length one ≤ 1 → length events ≤ 1
of_one one events e few = omega (arith, ap length e, few)

line_gives : (place : Place) (format : Format) (text : List ℕ) (events : List EventValue) → ReadsLine place format text events → length events ≤ 1
line_gives version format text events h = of_one _ events h.1 (omega arith)
line_gives (capabilities spoken) format text events h = of_one _ events h.3 (omega arith)
line_gives references format text events h = of_one _ events h.2 (omega arith)
line_gives (header allowed) format text events h = of_one _ events h.3 (omega arith)
line_gives (acknowledgments announced) format text events (inl h) = of_one _ events h.2 (omega arith)
line_gives (acknowledgments announced) format text events (inr (inl h)) = of_one _ events h.2 (omega arith)
line_gives (acknowledgments announced) format text events (inr (inr h)) = of_one _ events h.3 (omega arith)
line_gives shallow_info format text events (line, is, e) = of_one (boundary_event line ∷ []) events e (omega arith)
line_gives wanted_refs format text events h = of_one _ events h.2 (omega arith)
line_gives size_line format text events h = of_one _ events h.1 (omega arith)
line_gives sizes format text events h = of_one _ events h.2 (omega arith)
line_gives packfile format text events h = absurd h
line_gives response_end format text events h = absurd h

-- if these are events, they are at most this many
abbrev HasAtMost : ℕ → Result (List EventValue) Kind → Type 0
HasAtMost n (Ok events) = length events ≤ n
HasAtMost n (Err kind) = Unit {0}

one_if_allowed : (allowed : Bool) (events : List EventValue) (kind : Kind) → length events ≤ 1 → HasAtMost 1 (cond allowed (Ok events) (Err kind))
one_if_allowed true events kind few = few
one_if_allowed false events kind few = tt

one_unless_refused : (refused : Bool) (events : List EventValue) (kind : Kind) → length events ≤ 1 → HasAtMost 1 (cond refused (Err kind) (Ok events))
one_unless_refused true events kind few = tt
one_unless_refused false events kind few = few

on_band : (first second third : Bool) (bytes : List ℕ) → HasAtMost (length bytes)
    (cond first (Ok (map pack bytes)) (cond second (Ok (map progress bytes)) (cond third (Err RemoteFatal) (Err BadBand))))
on_band true second third bytes = omega (arith, length-map bytes pack)
on_band false true third bytes = omega (arith, length-map bytes progress)
on_band false false true bytes = tt
on_band false false false bytes = tt

band_gives : (bytes : List ℕ) (events : List EventValue) → events_of_band bytes ≡ Ok events → length events ≤ length bytes
band_gives [] events conveys = absurd (cc)
band_gives (band ∷ bytes) events conveys =
    let few : length events ≤ length bytes = subst (HasAtMost (length bytes)) conveys (on_band (band == 1) (band == 2) (band == 3) bytes) in
    omega (arith, few)

ended_one : (ending : Ending) → length (ended_by ending) ≤ 1
ended_one FlushOnly = omega arith
ended_one ResponseEnd = omega arith

flush_gives : (ending : Ending) (place : Place) → HasAtMost 1 (events_of_flush ending place)
flush_gives ending (capabilities spoken) = one_if_allowed spoken _ _ (omega arith)
flush_gives ending references = ended_one ending
flush_gives ending (acknowledgments announced) = one_unless_refused announced.ready _ _ (ended_one ending)
flush_gives ending packfile = ended_one ending
flush_gives ending size_line = ended_one ending
flush_gives ending sizes = ended_one ending
flush_gives ending place = tt

delimiter_gives : (place : Place) → HasAtMost 1 (events_of_delimiter place)
delimiter_gives (acknowledgments announced) = one_if_allowed announced.ready _ _ (omega arith)
delimiter_gives shallow_info = omega arith
delimiter_gives wanted_refs = omega arith
delimiter_gives place = tt

response_end_gives : (place : Place) → HasAtMost 1 (events_of_response_end place)
response_end_gives response_end = omega arith
response_end_gives place = tt

payload_gives : (format : Format) (ending : Ending) (place : Place) (bytes : List ℕ) (events : List EventValue)
    → Gives format ending place (payload bytes) events → length events ≤ length bytes + 1
payload_gives format ending packfile bytes events gives = omega (arith, band_gives bytes events gives)
payload_gives format ending response_end bytes events gives = absurd gives
payload_gives format ending place bytes events gives =
    omega (arith, line_gives place format (text_of bytes) events (line_read place format (text_of bytes) events gives.conveys))

packet_gives : (format : Format) (ending : Ending) (place : Place) (p : Pkt) (events : List EventValue) → Gives format ending place p events
    → length events ≤ length (body_of p) + 1
packet_gives format ending place (payload bytes) events gives = payload_gives format ending place bytes events gives
packet_gives format ending place flush events gives = subst (HasAtMost 1) gives (flush_gives ending place)
packet_gives format ending place delim events gives = subst (HasAtMost 1) gives (delimiter_gives place)
packet_gives format ending place resp_end events gives = subst (HasAtMost 1) gives (response_end_gives place)

-- ---- the events of all packets

rest_within : (p : ℕ) (bytes : List ℕ) (gs : List Given) (rest : List ℕ) → SpellsAll p bytes gs rest → length rest ≤ length bytes
rest_within p bytes [] rest same = omega (arith, ap length same)
rest_within p bytes (g ∷ gs) rest (s, after, cut, at, spells, tail) =
    omega (arith, rest_within (p + length s) after gs rest tail, ap length cut, length-append s after)

packets_give : (t : Terms) (asked : List Asked) (before : List Pkt) (gs more : List Given) (p : ℕ) (bytes rest : List ℕ) (events : List EventValue)
    → SpellsAll p bytes (gs ++ more) rest → GiveAll t asked before gs events → length events + length rest ≤ length bytes
packets_give t asked before [] more p bytes rest events spelled none = omega (arith, ap length none, rest_within p bytes more rest spelled)
packets_give t asked before (g ∷ gs) more p bytes rest events (s, after, cut, at, spells, tail) (now, later, e, here, others) =
    omega (
      arith,
      packets_give t asked (g.packet ∷ before) gs more (p + length s) after rest later tail others,
      packet_gives t.format t.ending here.place g.packet now here.gives,
      spelled_length g.packet s spells,
      ap length e,
      length-append now later,
      ap length cut,
      length-append s after,
    )

-- an open packet has at most as many events as bytes
few_unless : (more : List Given) (place : Option Place) (rest : List ℕ) → length (unless_refused more (opened_in place rest)) ≤ length rest
few_unless [] place rest = few_opened place rest
few_unless (g ∷ more) place rest = omega arith

few_of_rest : (rest : List ℕ) (part opened : List EventValue) → IsOfRest rest part opened → length part ≤ length rest → length opened ≤ length rest
few_of_rest rest part opened (inl x) few = omega (arith, few, ap length x.1)
few_of_rest rest part opened (inr x) few = omega (arith, ap length x.1)

events_of_bytes : (t : Terms) (asked : List Asked) (bytes : List ℕ) (events : List EventValue) → HasEvents t asked bytes events
    → length events ≤ length bytes
events_of_bytes t asked bytes events e =
    let h = e.sounds in
    let spelled : SpellsAll 0 bytes (e.clean ++ h.more) h.rest = subst (λ (gs : List Given). SpellsAll 0 bytes gs h.rest) h.cut h.splits.spelled in
    omega (
      arith,
      packets_give t asked [] e.clean h.more 0 bytes h.rest e.whole spelled h.gives,
      few_of_rest h.rest _ e.opened e.of_rest (few_unless h.more (place_after t asked (nearest e.clean [])) h.rest),
      ap length e.events_are,
      length-append e.whole e.opened,
    )

module _ {A : Type 0} (t : Terms) (h : History) (client : Client A) (c : Converses t h client) where
  pub events_fit : length h.events ≤ length h.used
  events_fit = events_of_bytes t h.asked h.used h.events (has_events t h client c)

  -- a count of events never overflows
  pub few_events : length h.events ≤ last_position
  few_events = omega (arith, events_fit, c.reads.within)

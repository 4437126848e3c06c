-- What a packet without an error adds, by its place: turns, and bytes of the pack.
use Rattle.std.proofs.Common.{arith, ◌≡◌, ℕ, zero, suc, ◌+◌, Bool, true, false, not, List, [], ◌∷◌}
use Rattle.std.proofs.Common.{Option, Some, None, Result, Ok, Err, refl, ap, subst, cond, slice_get}
use Rattle.git_names.specs.declared.object_format.Format.{Format}
use Rattle.git_pkt.specs.Packets.{Pkt, flush, delim, resp_end, payload, flushes, text_of}
use Rattle.git_pkt.specs.declared.fault.Kind.{Kind}
use Rattle.git_msg.specs.Asked.{Asked, ls_refs, fetch, object_info}
use Rattle.git_client.specs.declared.events.Ending.{Ending}
use Rattle.git_client.specs.declared.events.Ending.TheVariants.{FlushOnly, ResponseEnd}
use Rattle.git_client.specs.declared.sections.Section.{Section}
use Rattle.git_client.specs.declared.sections.Section.TheVariants.{Acknowledgments}
use Rattle.git_client.specs.declared.sections.Allowed.{Allowed}
use Rattle.git_client.specs.Parts.{Terms, closing, is_zero, message_of, is_end_expected, answer_to, part_after}
use Rattle.git_client.specs.Places.{Place, version, capabilities, references, header, acknowledgments, shallow_info, wanted_refs, packfile}
use Rattle.git_client.specs.Places.{size_line, sizes, response_end}
use Rattle.git_client.specs.Places.{place_in, place_of, place_after}
use Rattle.git_client.specs.Events.{EventValue, offered, Gives, GivesLine, ended_by, events_of_flush, events_of_delimiter, events_of_response_end}
use Rattle.git_client.specs.Events.{turns_of, pack_bytes}
use Rattle.git_client.specs.Packs.{pack_in}
use Rattle.git_client.proofs.PlaceLines.{line_is, band_is}

-- how many flushes come before a place, and whether a response end is expected there
abbrev pub ComesAfter : Place → ℕ → Bool → Type 0
ComesAfter version n expected = (n ≡ 0) × (expected ≡ false)
ComesAfter (capabilities spoken) n expected = (n ≡ 0) × (expected ≡ false)
ComesAfter response_end n expected = expected ≡ true
ComesAfter place n expected = ((k : ℕ) × (n ≡ suc k)) × (expected ≡ false)

moved : (found place : Place) (n : ℕ) (expected : Bool) → Some found ≡ Some place → ComesAfter found n expected → ComesAfter place n expected
moved found place n expected e h = let same : found ≡ place = cc in subst (λ (q : Place). ComesAfter q n expected) same h

in_section : (section : Option Section) (lines : List Pkt) (place : Place) (k : ℕ) → place_in section lines ≡ Some place → ComesAfter place (suc k) false
in_section None lines place k h = absurd (cc)
in_section (Some Acknowledgments) lines place k h = moved _ place (suc k) false h ((k, refl), refl)
in_section (Some section) lines place k h = moved _ place (suc k) false h ((k, refl), refl)

in_sections : (at_header : Bool) (allowed : Allowed) (section : Option Section) (lines : List Pkt) (place : Place) (k : ℕ)
    → cond at_header (Some (header allowed)) (place_in section lines) ≡ Some place → ComesAfter place (suc k) false
in_sections true allowed section lines place k h = moved _ place (suc k) false h ((k, refl), refl)
in_sections false allowed section lines place k h = in_section section lines place k h

in_sizes : (at_first : Bool) (place : Place) (k : ℕ) → cond at_first (Some size_line) (Some sizes) ≡ Some place → ComesAfter place (suc k) false
in_sizes true place k h = moved _ place (suc k) false h ((k, refl), refl)
in_sizes false place k h = moved _ place (suc k) false h ((k, refl), refl)

in_answer : (format : Format) (question : Option Asked) (message : List Pkt) (place : Place) (k : ℕ)
    → place_of format (answer_to question) message ≡ Some place → ComesAfter place (suc k) false
in_answer format None message place k h = absurd (cc)
in_answer format (Some (ls_refs q)) message place k h = moved _ place (suc k) false h ((k, refl), refl)
in_answer format (Some (fetch q)) message place k h = in_sections _ _ _ _ place k h
in_answer format (Some (object_info q)) message place k h = in_sizes _ place k h

in_part : (format : Format) (asked : List Asked) (expected : Bool) (n : ℕ) (message : List Pkt) (place : Place)
    → place_of format (cond expected (Some closing) (part_after asked n)) message ≡ Some place → ComesAfter place n expected
in_part format asked true n message place h = moved _ place n true h refl
in_part format asked false zero message place h = moved _ place zero false h (refl, refl)
in_part format asked false (suc k) message place h = in_answer format (slice_get asked k) message place k h

pub nothing_expected : (ending : Ending) → is_end_expected ending [] ≡ false
nothing_expected FlushOnly = refl
nothing_expected ResponseEnd = refl

pub comes_after : (t : Terms) (asked : List Asked) (before : List Pkt) (place : Place) → place_after t asked before ≡ Some place
    → ComesAfter place (flushes before) (is_end_expected t.ending before)
comes_after t asked [] place h = moved version place 0 (is_end_expected t.ending []) h (refl, nothing_expected t.ending)
comes_after t asked (p ∷ before) place h =
    in_part t.format asked (is_end_expected t.ending (p ∷ before)) (flushes (p ∷ before)) (message_of (p ∷ before)) place h

abbrev pub one_if : Bool → ℕ
one_if b = cond b 1 0

-- a flush adds a turn or lets a response end be expected, and an expected response end adds a turn; the packet adds these bytes of the pack
pub record Adds (ending : Ending) (before : List Pkt) (p : Pkt) (now : List EventValue) (packed : List ℕ) : Type 0 where
  pub turn : turns_of now + one_if (is_end_expected ending (p ∷ before)) + flushes before ≡ flushes (p ∷ before) + one_if (is_end_expected ending before)
  pub bytes : pack_bytes now ≡ packed

pub stated_by : (conveys : Result (List EventValue) Kind) (one now : List EventValue) → conveys ≡ Ok one → conveys ≡ Ok now → now ≡ one
stated_by conveys one now e h = cc

pub stated_if : (allowed : Bool) (kind : Kind) (one now : List EventValue) → cond allowed (Ok one) (Err kind) ≡ Ok now → now ≡ one
stated_if true kind one now e = stated_by (Ok one) one now refl e
stated_if false kind one now e = absurd (cc)

pub stated_unless : (refused : Bool) (kind : Kind) (one now : List EventValue) → cond refused (Err kind) (Ok one) ≡ Ok now → now ≡ one
stated_unless true kind one now e = absurd (cc)
stated_unless false kind one now e = stated_by (Ok one) one now refl e

-- a packet that is neither a flush nor a response end
no_flush : (ending : Ending) (before : List Pkt) (p : Pkt) (now : List EventValue) (packed : List ℕ) → turns_of now ≡ 0 → pack_bytes now ≡ packed
    → flushes (p ∷ before) ≡ flushes before → is_end_expected ending (p ∷ before) ≡ false → is_end_expected ending before ≡ false
    → Adds ending before p now packed
no_flush ending before p now packed turns bytes same after expected =
    record { turn = omega (arith, turns, same, ap one_if after, ap one_if expected); bytes = bytes }

after_payload : (ending : Ending) (line : List ℕ) (before : List Pkt) → is_end_expected ending (payload line ∷ before) ≡ false
after_payload FlushOnly line before = refl
after_payload ResponseEnd line before = refl

line_adds : (ending : Ending) (place : Place) (format : Format) (before : List Pkt) (line : List ℕ) (now : List EventValue)
    → is_end_expected ending before ≡ false → GivesLine place format (text_of line) now → Adds ending before (payload line) now []
line_adds ending place format before line now expected gives =
    let is = line_is place format (text_of line) now gives.conveys in
    no_flush ending before (payload line) now [] is.turns is.bytes refl (after_payload ending line before) expected

payload_adds : (ending : Ending) (place : Place) (format : Format) (before : List Pkt) (line : List ℕ) (now : List EventValue)
    → ComesAfter place (flushes before) (is_end_expected ending before) → Gives format ending place (payload line) now
    → Adds ending before (payload line) now (pack_in (Some place) (payload line))
payload_adds ending packfile format before line now (some, expected) gives =
    let is = band_is line now gives in no_flush ending before (payload line) now _ is.0 is.1 refl (after_payload ending line before) expected
payload_adds ending response_end format before line now expected gives = absurd gives
payload_adds ending place format before line now (count, expected) gives = line_adds ending place format before line now expected gives

-- the flush of the advertisement
offered_adds : (ending : Ending) (before : List Pkt) (now : List EventValue) → now ≡ offered ∷ [] → flushes before ≡ 0
    → is_end_expected ending before ≡ false → Adds ending before flush now []
offered_adds FlushOnly before now e none expected = record { turn = omega (arith, ap turns_of e, ap one_if expected); bytes = ap pack_bytes e }
offered_adds ResponseEnd before now e none expected = record {
  turn = omega (arith, ap turns_of e, ap (λ (n : ℕ). one_if (not (is_zero n))) none, ap one_if expected);
  bytes = ap pack_bytes e;
}

-- the flush of a response
response_adds : (ending : Ending) (before : List Pkt) (now : List EventValue) (k : ℕ) → now ≡ ended_by ending → flushes before ≡ suc k
    → is_end_expected ending before ≡ false → Adds ending before flush now []
response_adds FlushOnly before now k e some expected = record { turn = omega (arith, ap turns_of e, ap one_if expected); bytes = ap pack_bytes e }
response_adds ResponseEnd before now k e some expected = record {
  turn = omega (arith, ap turns_of e, ap (λ (n : ℕ). one_if (not (is_zero n))) some, ap one_if expected);
  bytes = ap pack_bytes e;
}

flush_adds : (ending : Ending) (place : Place) (before : List Pkt) (now : List EventValue)
    → ComesAfter place (flushes before) (is_end_expected ending before) → events_of_flush ending place ≡ Ok now
    → Adds ending before flush now (pack_in (Some place) flush)
flush_adds ending (capabilities spoken) before now (none, expected) conveys = offered_adds ending before now (stated_if spoken _ _ now conveys) none expected
flush_adds ending references before now ((k, some), expected) conveys = response_adds ending before now k (stated_by _ _ now refl conveys) some expected
flush_adds ending (acknowledgments announced) before now ((k, some), expected) conveys =
    response_adds ending before now k (stated_unless announced.ready _ _ now conveys) some expected
flush_adds ending packfile before now ((k, some), expected) conveys = response_adds ending before now k (stated_by _ _ now refl conveys) some expected
flush_adds ending size_line before now ((k, some), expected) conveys = response_adds ending before now k (stated_by _ _ now refl conveys) some expected
flush_adds ending sizes before now ((k, some), expected) conveys = response_adds ending before now k (stated_by _ _ now refl conveys) some expected
flush_adds ending _ before now after conveys = absurd (cc)

no_end_after : (ending : Ending) (before : List Pkt) → (is_end_expected ending (delim ∷ before) ≡ false) × (is_end_expected ending (resp_end ∷ before) ≡ false)
no_end_after FlushOnly before = (refl, refl)
no_end_after ResponseEnd before = (refl, refl)

nothing_adds : (ending : Ending) (before : List Pkt) (now : List EventValue) → now ≡ [] → is_end_expected ending before ≡ false
    → Adds ending before delim now []
nothing_adds ending before now e expected =
    no_flush ending before delim now [] (ap turns_of e) (ap pack_bytes e) refl (no_end_after ending before).0 expected

delimiter_adds : (ending : Ending) (place : Place) (before : List Pkt) (now : List EventValue)
    → ComesAfter place (flushes before) (is_end_expected ending before) → events_of_delimiter place ≡ Ok now
    → Adds ending before delim now (pack_in (Some place) delim)
delimiter_adds ending (acknowledgments announced) before now (some, expected) conveys =
    nothing_adds ending before now (stated_if announced.ready _ _ now conveys) expected
delimiter_adds ending shallow_info before now (some, expected) conveys = nothing_adds ending before now (stated_by _ _ now refl conveys) expected
delimiter_adds ending wanted_refs before now (some, expected) conveys = nothing_adds ending before now (stated_by _ _ now refl conveys) expected
delimiter_adds ending _ before now after conveys = absurd (cc)

response_end_adds : (ending : Ending) (place : Place) (before : List Pkt) (now : List EventValue)
    → ComesAfter place (flushes before) (is_end_expected ending before) → events_of_response_end place ≡ Ok now
    → Adds ending before resp_end now (pack_in (Some place) resp_end)
response_end_adds ending response_end before now expected conveys =
    let e = stated_by _ _ now refl conveys in
    record { turn = omega (arith, ap turns_of e, ap one_if expected, ap one_if (no_end_after ending before).1); bytes = ap pack_bytes e }
response_end_adds ending _ before now after conveys = absurd (cc)

pub packet_adds : (format : Format) (ending : Ending) (place : Place) (before : List Pkt) (p : Pkt) (now : List EventValue)
    → ComesAfter place (flushes before) (is_end_expected ending before) → Gives format ending place p now → Adds ending before p now (pack_in (Some place) p)
packet_adds format ending place before (payload line) now after gives = payload_adds ending place format before line now after gives
packet_adds format ending place before flush now after gives = flush_adds ending place before now after gives
packet_adds format ending place before delim now after gives = delimiter_adds ending place before now after gives
packet_adds format ending place before resp_end now after gives = response_end_adds ending place before now after gives

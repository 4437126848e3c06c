-- The parts of an event are together no longer than the packet that gives it.
use Rattle.std.proofs.Common.{arith, ◌≡◌, ◌∙◌, ℕ, ◌+◌, ◌≤◌, ◌==◌, Bool, true, false, List, [], ◌∷◌, ◌++◌, length, Option, Some, None, Ok, inl, inr}
use Rattle.std.proofs.Common.{refl, ap, sym, subst, codes, cond, map, take, slice_index, length-append, ◌-◌, ◌&&◌, nat_lt}
use Rattle.std.specs.Prelude.{sum_by}
use Rattle.std.specs.List.{cons_option, onto_first, slice_split}
use Rattle.std.specs.Option.{option_map_or}
use Rattle.std.proofs.lemmas.Grind.{common_steps}
use Rattle.std.proofs.lemmas.List.Sums.{sum_by-cons}
use Rattle.git_names.specs.ObjectFormat.{digits_of}
use Rattle.git_names.specs.ObjectName.{ObjectName}
use Rattle.git_names.specs.declared.object_format.Format.{Format}
use Rattle.git_names.specs.declared.object_format.Format.TheVariants.{Sha1, Sha256}
use Rattle.git_pkt.specs.Packets.{Pkt, flush, delim, resp_end, payload, text_of, body_of, longest_payload}
use Rattle.git_pkt.specs.Passed.{on}
use Rattle.git_pkt.specs.declared.band.Band.{Band}
use Rattle.git_pkt.specs.declared.band.Band.TheVariants.{Pack, Progress, Fatal}
use Rattle.git_msg.specs.Capability.{IsCapability}
use Rattle.git_msg.specs.ResponseLines.{Wanted, IsWantedLine}
use Rattle.git_msg.specs.declared.response_lines.Boundary.{Boundary}
use Rattle.git_msg.specs.declared.response_lines.Boundary.TheVariants.{Shallow, Unshallow}
use Rattle.git_msg.specs.References.{Ref, IsIdText, id_length, IsReferenceLine, IsMaybeObjectName, value_behind, values_of}
use Rattle.git_msg.specs.Texts.{last_of, spaced_words}
use Rattle.git_msg.proofs.ReferenceWords.{value_spelled}
use Rattle.git_client.specs.Places.{Place, version, capabilities, references, header, acknowledgments, shallow_info, wanted_refs, packfile}
use Rattle.git_client.specs.Places.{size_line, sizes, response_end}
use Rattle.git_client.specs.Events.{EventValue, capability, reference, ack, nak, ready, shallow, unshallow, wanted_ref, pack, progress, info}
use Rattle.git_client.specs.Events.{section, ended, offered, Gives, events_of_band, events_of_delimiter, ended_by, events_of_flush, events_of_response_end}
use Rattle.git_client.specs.Events.{parts_length, all_parts_length}
use Rattle.git_client.proofs.SectionSteps.{header_named}
use Rattle.git_client.specs.Opened.{events_on}
use Rattle.git_client.specs.Packs.{on_first_band}
use Rattle.git_client.specs.declared.events.Ending.{Ending}
use Rattle.git_client.specs.declared.events.Ending.TheVariants.{FlushOnly, ResponseEnd}
use Rattle.git_client.proofs.Opened.{on_fatal, on_pack, on_progress}
use Rattle.git_client.proofs.PlaceLines.{IsOfBand, ReadsLine, band_of, boundary_event, line_read}
use Rattle.git_client.proofs.PlacePackets.{stated_by, stated_if, stated_unless}

-- the length of all texts together
total : List (List ℕ) → ℕ
total words = sum_by length words

optional : Option (List ℕ) → ℕ
optional text = option_map_or length text 0

total_of : (w : List ℕ) (ws : List (List ℕ)) → total (w ∷ ws) ≡ length w + total ws
unfolding total
total_of w ws = sum_by-cons length w ws

none_long : total [] ≡ 0
unfolding total
none_long = refl

longer_first : (x : ℕ) (parts : List (List ℕ)) → total (onto_first x parts) ≡ 1 + total parts
longer_first x [] = total_of (x ∷ []) []
longer_first x (part ∷ parts) = omega (arith, total_of (x ∷ part) parts, total_of part parts)

one_more : (b : Bool) (x : ℕ) (xs : List ℕ) (parts : List (List ℕ)) → total parts ≤ length xs
    → total (cond b ([] ∷ parts) (onto_first x parts)) ≤ length (x ∷ xs)
one_more true x xs parts h = omega (arith, total_of [] parts)
one_more false x xs parts h = omega (arith, longer_first x parts)

parts_fit : (p : ℕ → Bool) (xs : List ℕ) → total (slice_split p xs) ≤ length xs
parts_fit p [] = omega (arith, total_of [] [], none_long)
parts_fit p (x ∷ xs) = one_more (p x) x xs (slice_split p xs) (parts_fit p xs)

-- the words of a text are no longer than it
words_fit : (text : List ℕ) → total (spaced_words text) ≤ length text
words_fit text = parts_fit (λ c. c == 32) text

last_fits : (texts : List (List ℕ)) → optional (last_of texts) ≤ total texts
unfolding optional
last_fits [] = omega (arith, none_long)
last_fits (text ∷ []) = omega (arith, total_of text [], none_long)
last_fits (text ∷ other ∷ texts) = omega (arith, total_of text (other ∷ texts), last_fits (other ∷ texts))

abbrev target_key : List ℕ
target_key = codes "symref-target:"

abbrev peeled_key : List ℕ
peeled_key = codes "peeled:"

same_heads : (word a b : List ℕ) → word ≡ a → word ≡ b → slice_index a 0 ≡ slice_index b 0
same_heads word a b h k = ap (λ (l : List ℕ). slice_index l 0) (sym h ∙ k)

-- no word is an attribute of both keys
not_both : (word a b : List ℕ) → word ≡ target_key ++ a → word ≡ peeled_key ++ b → ⊥
not_both word a b h k = omega (arith, same_heads word (target_key ++ a) (peeled_key ++ b) h k)

word_fits : (word : List ℕ) (a b : Option (List ℕ)) → value_behind target_key word ≡ a → value_behind peeled_key word ≡ b
    → optional a + optional b ≤ length word
unfolding optional
word_fits word None None h k = omega arith
word_fits word (Some a) None h k = omega (arith, ap length (value_spelled target_key word a h) ∙ length-append target_key a)
word_fits word None (Some b) h k = omega (arith, ap length (value_spelled peeled_key word b k) ∙ length-append peeled_key b)
word_fits word (Some a) (Some b) h k = absurd (not_both word a b (value_spelled target_key word a h) (value_spelled peeled_key word b k))

more_values : (value : Option (List ℕ)) (values : List (List ℕ)) → total (cons_option value values) ≡ optional value + total values
unfolding optional
more_values None values = omega arith
more_values (Some value) values = total_of value values

-- the values of the two keys are together no longer than the attributes
values_fit : (words : List (List ℕ)) → total (values_of target_key words) + total (values_of peeled_key words) ≤ total words
unfolding total
values_fit [] = omega arith
values_fit (word ∷ words) = omega (
  arith,
  total_of word words,
  values_fit words,
  word_fits word (value_behind target_key word) (value_behind peeled_key word) refl refl,
  more_values (value_behind target_key word) (values_of target_key words),
  more_values (value_behind peeled_key word) (values_of peeled_key words),
)

-- the number of digits of an object name, or 0 if there is none
abbrev digits_in : Option ObjectName → ℕ
digits_in id = option_map_or (λ (o : ObjectName). digits_of o.format) id 0

peeled_fits : (format : Format) (text : Option (List ℕ)) (id : Option ObjectName) → IsMaybeObjectName format text id → digits_in id ≤ optional text
unfolding optional
peeled_fits format None id h = rw h (omega arith)
peeled_fits format (Some text) id (named, is, e) = rw (e, is.of_format) (omega (arith, is.count))

abbrev ref_length : Ref → ℕ
ref_length ref = id_length ref.id + length ref.name + optional ref.target + digits_in ref.peeled

-- the first word of a line is as long as is counted for its object name
id_fits : (format : Format) (word : List ℕ) (id : Option ObjectName) → IsIdText format word id → id_length id ≡ length word
id_fits format word None h = sym (ap length h)
id_fits format word (Some id) h = ap digits_of h.of_format ∙ sym h.count

-- the parts of a reference fit into its line
reference_fits : (format : Format) (text : List ℕ) (ref : Ref) → IsReferenceLine format text ref → ref_length ref ≤ length text
unfolding optional
reference_fits format text ref h =
    let key = target_key in
    let id : id_length ref.id ≡ length h.id = id_fits format h.id ref.id h.id_is in
    let words : total (h.id ∷ ref.name ∷ h.attributes) ≤ length text = subst (λ (ws : List (List ℕ)). total ws ≤ length text) h.words (words_fit text) in
    let target : optional ref.target ≤ total (values_of target_key h.attributes) =
    subst (λ (o : Option (List ℕ)). optional o ≤ total (values_of target_key h.attributes)) (sym h.attributes_are.target_is)
    (last_fits (values_of target_key h.attributes)) in
    let peeled = peeled_fits format _ ref.peeled h.attributes_are.peeled_is in
    omega (
      arith,
      id,
      words,
      target,
      peeled,
      last_fits (values_of peeled_key h.attributes),
      values_fit h.attributes,
      total_of h.id (ref.name ∷ h.attributes),
      total_of ref.name h.attributes,
    )

-- a text is no longer than its line
text_within : (bytes : List ℕ) → length (text_of bytes) ≤ length bytes
text_within bytes = go (nat_lt 0 (length bytes) && (slice_index bytes (length bytes - 1) == 10)) where
  go : (b : Bool) → length (cond b (take (length bytes - 1) bytes) bytes) ≤ length bytes
  go true = grind (arith, common_steps)
  go false = omega arith

digits_at_most : (format : Format) → digits_of format ≤ 64
digits_at_most Sha1 = omega arith
digits_at_most Sha256 = omega arith

capability_fits : (text key : List ℕ) (value : Option (List ℕ)) → IsCapability text key value → length key + optional value ≤ length text
unfolding optional
capability_fits text key None is = omega (arith, ap length is.1)
capability_fits text key (Some value) is = omega (arith, ap length is.1 ∙ length-append key (61 ∷ value))

abbrev Fits : List EventValue → Type 0
Fits events = all_parts_length events ≤ longest_payload

alone : (event : EventValue) → parts_length event ≤ longest_payload → Fits (event ∷ [])
alone event h = rw (sum_by-cons parts_length event []) (omega (arith, h))

object_fits : (event : EventValue) (id : ObjectName) → parts_length event ≡ digits_of id.format → Fits (event ∷ [])
object_fits event id e = alone event (omega (arith, e, digits_at_most id.format))

boundary_fits : (line : Boundary) → Fits (boundary_event line ∷ [])
boundary_fits (Shallow id) = object_fits (shallow id) id refl
boundary_fits (Unshallow id) = object_fits (unshallow id) id refl

wanted_fits : (format : Format) (text : List ℕ) (wanted : Wanted) → IsWantedLine format text wanted → length text ≤ longest_payload
    → Fits (wanted_ref wanted ∷ [])
wanted_fits format text wanted is within =
    let id : digits_of wanted.id.format ≡ length is.id = ap digits_of is.id_is.of_format ∙ sym is.id_is.count in
    alone (wanted_ref wanted) (omega (arith, id, within, ap length is.spelled ∙ length-append is.id (32 ∷ wanted.name)))

read_fits : (place : Place) (format : Format) (text : List ℕ) (events : List EventValue) → ReadsLine place format text events
    → length text ≤ longest_payload → Fits events
unfolding optional
read_fits version format text events (is, e) within = rw e (omega arith)
read_fits (capabilities spoken) format text events (key, value, is, e) within =
    rw e (alone (capability key value) (omega (arith, capability_fits text key value is)))
read_fits references format text events (ref, is, e) within = rw e (alone (reference ref) (omega (arith, reference_fits format text ref is)))
read_fits (header allowed) format text events (begun, is, may, e) within =
    rw e (alone (section begun) (omega (arith, within, ap length (header_named text begun is))))
read_fits (acknowledgments announced) format text events (inl h) within = rw h.2 (alone nak (omega arith))
read_fits (acknowledgments announced) format text events (inr (inl h)) within = rw h.2 (alone ready (omega arith))
read_fits (acknowledgments announced) format text events (inr (inr h)) within = rw h.3 (object_fits (ack h.0) h.0 refl)
read_fits shallow_info format text events (line, is, e) within = rw e (boundary_fits line)
read_fits wanted_refs format text events (wanted, is, e) within = rw e (wanted_fits format text wanted is within)
read_fits size_line format text events (is, e) within = rw e (omega arith)
read_fits sizes format text events (announced, is, e) within = rw e (object_fits (info announced) announced.id refl)
read_fits packfile format text events h within = absurd h
read_fits response_end format text events h within = absurd h

-- bytes on a band are parts of one byte each
pub each_one : (event : ℕ → EventValue) (bytes : List ℕ) → ((byte : ℕ) → parts_length (event byte) ≡ 1) → all_parts_length (map event bytes) ≡ length bytes
each_one event [] one = refl
each_one event (byte ∷ bytes) one =
    let more : all_parts_length (map event (byte ∷ bytes)) ≡ parts_length (event byte) + all_parts_length (map event bytes) =
    sum_by-cons parts_length (event byte) (map event bytes) in
    omega (arith, more, one byte, each_one event bytes one)

pub parts_on : (band : Band) (bytes : List ℕ) → all_parts_length (events_on (map (on band) bytes)) ≤ length bytes
parts_on Pack bytes = omega (arith, ap all_parts_length (on_pack bytes), each_one pack bytes (λ byte. refl))
parts_on Progress bytes = omega (arith, ap all_parts_length (on_progress bytes), each_one progress bytes (λ byte. refl))
parts_on Fatal bytes = omega (arith, ap all_parts_length (on_fatal bytes))

of_band_fits : (first bytes : List ℕ) (events : List EventValue) → IsOfBand first bytes events → length first ≤ longest_payload
    → length bytes ≤ longest_payload → Fits events
of_band_fits first bytes events (inl e) h k = rw e (omega (arith, each_one pack first (λ byte. refl)))
of_band_fits first bytes events (inr (none, e)) h k = rw e (omega (arith, each_one progress bytes (λ byte. refl)))

band_fits : (bytes : List ℕ) (events : List EventValue) → events_of_band bytes ≡ Ok events → length bytes ≤ longest_payload → Fits events
band_fits [] events conveys within = absurd (cc)
band_fits (band ∷ bytes) events conveys within =
    of_band_fits (on_first_band (band ∷ bytes)) bytes events (band_of (band == 1) (band == 2) (band == 3) bytes events conveys) (first (band == 1))
    (omega arith)
  where
    first : (b : Bool) → length (cond b bytes []) ≤ longest_payload
    first true = omega arith
    first false = omega arith

ended_fits : (ending : Ending) → Fits (ended_by ending)
ended_fits FlushOnly = alone ended (omega arith)
ended_fits ResponseEnd = omega arith

flush_fits : (ending : Ending) (place : Place) (events : List EventValue) → events_of_flush ending place ≡ Ok events → Fits events
flush_fits ending (capabilities spoken) events conveys = rw (stated_if spoken _ _ events conveys) (alone offered (omega arith))
flush_fits ending references events conveys = rw (stated_by _ _ events refl conveys) (ended_fits ending)
flush_fits ending (acknowledgments announced) events conveys = rw (stated_unless announced.ready _ _ events conveys) (ended_fits ending)
flush_fits ending packfile events conveys = rw (stated_by _ _ events refl conveys) (ended_fits ending)
flush_fits ending size_line events conveys = rw (stated_by _ _ events refl conveys) (ended_fits ending)
flush_fits ending sizes events conveys = rw (stated_by _ _ events refl conveys) (ended_fits ending)
flush_fits ending _ events conveys = absurd (cc)

delimiter_fits : (place : Place) (events : List EventValue) → events_of_delimiter place ≡ Ok events → Fits events
delimiter_fits (acknowledgments announced) events conveys = rw (stated_if announced.ready _ _ events conveys) (omega arith)
delimiter_fits shallow_info events conveys = rw (stated_by _ _ events refl conveys) (omega arith)
delimiter_fits wanted_refs events conveys = rw (stated_by _ _ events refl conveys) (omega arith)
delimiter_fits _ events conveys = absurd (cc)

response_end_fits : (place : Place) (events : List EventValue) → events_of_response_end place ≡ Ok events → Fits events
response_end_fits response_end events conveys = rw (stated_by _ _ events refl conveys) (alone ended (omega arith))
response_end_fits _ events conveys = absurd (cc)

payload_fits : (format : Format) (ending : Ending) (place : Place) (bytes : List ℕ) (events : List EventValue)
    → Gives format ending place (payload bytes) events → length bytes ≤ longest_payload → Fits events
payload_fits format ending packfile bytes events gives within = band_fits bytes events gives within
payload_fits format ending response_end bytes events gives within = absurd gives
payload_fits format ending place bytes events gives within =
    read_fits place format (text_of bytes) events (line_read place format (text_of bytes) events gives.conveys) (omega (arith, text_within bytes))

-- the parts of a packet's events together are no longer than the longest payload
pub events_fit : (format : Format) (ending : Ending) (place : Place) (p : Pkt) (events : List EventValue) → Gives format ending place p events
    → length (body_of p) ≤ longest_payload → all_parts_length events ≤ longest_payload
events_fit format ending place (payload bytes) events gives within = payload_fits format ending place bytes events gives within
events_fit format ending place flush events gives within = flush_fits ending place events gives
events_fit format ending place delim events gives within = delimiter_fits place events gives
events_fit format ending place resp_end events gives within = response_end_fits place events gives

-- A conversation follows the rules of its messages exactly if it is whole and each of its packets is in its place.
use Rattle.std.proofs.Common.{arith, ◌≡◌, ◌↔◌, ◌⊎◌, ◌||◌, inl, inr, ℕ, zero, suc, ◌<◌, ◌≤◌, Bool, true, false, not, List, [], ◌∷◌, ◌++◌}
use Rattle.std.proofs.Common.{Option, Some, Ok, Err, refl, sym, ap, ◌∙◌, subst, append_assoc, append-nil, codes, cond, drop, length, length-append}
use Rattle.std.proofs.Common.{slice_get, take, take-append-drop}
use Rattle.std.proofs.lemmas.List.{drop-map, drop_at, map-append, take-map, take_at}
use Rattle.std.specs.List.{list_any}
use Rattle.git_names.specs.declared.object_format.Format.{Format}
use Rattle.git_names.specs.declared.object_format.Format.TheVariants.{Sha1, Sha256}
use Rattle.git_pkt.specs.Packets.{Pkt, flush, delim, resp_end, payload, text_of, flushes}
use Rattle.git_pkt.specs.Splits.{Given}
use Rattle.git_pkt.specs.declared.fault.Kind.TheVariants.{WrongFormat}
use Rattle.git_msg.specs.Advertisement.{has_key, has_value, is_spoken, key_in, noted_of, value_in}
use Rattle.git_msg.specs.Asked.{Asked}
use Rattle.git_msg.specs.Capability.{IsCapability}
use Rattle.git_msg.specs.Texts.{spaced_words}
use Rattle.git_client.specs.declared.events.Ending.{Ending}
use Rattle.git_client.specs.declared.events.Ending.TheVariants.{FlushOnly, ResponseEnd}
use Rattle.git_client.specs.Parts.{Part, Terms, answer_to, closing, is_end_expected, is_zero, message_of, nearest, part_after, terms_by}
use Rattle.git_client.specs.Places.{Place, capabilities, place_after, place_of, response_end, version}
use Rattle.git_client.specs.Events.{EventValue, Gives, GivesLine, capability, events_of_flush, offered}
use Rattle.git_client.specs.Conversation.{GiveAll, GivesAt, IsConversation}
use Rattle.git_client.specs.Responses.{AreResponses, GoesByMessages, IsAdvertisement, IsCapabilityLine, IsOfferEnd, IsResponse, IsVersion, Many}
use Rattle.git_client.specs.Machine.Client.{AreWhole}
use Rattle.git_client.proofs.ResponseRules.{packets_in, response_is}
use Rattle.git_client.proofs.Sequences.{give_all_append, gives_more, nearest-append}
use Rattle.git_client.proofs.Truncation.{none_expected}

-- ---- packets that are two lists joined

-- the two lists
pub record Cut (gs : List Given) (front back : List Pkt) : Type 0 where
  pub first : List Given
  pub second : List Given
  pub whole : gs ≡ first ++ second
  pub first_are : packets_in first ≡ front
  pub second_are : packets_in second ≡ back

pub cut_at : (gs : List Given) (front back : List Pkt) → packets_in gs ≡ front ++ back → Cut gs front back
cut_at gs front back e =
    let packets = λ (g : Given). g.packet in
    record {
      first = take (length front) gs;
      second = drop (length front) gs;
      whole = sym (take-append-drop (length front) gs);
      first_are = rw (← take-map packets (length front) gs, e) (take_at front back (length front) refl);
      second_are = rw (← drop-map packets (length front) gs, e) (drop_at front back (length front) refl);
    }

-- ---- what packets note does not depend on their order

or_moved : (a b c : Bool) → (a || (b || c)) ≡ ((b || a) || c)
or_moved true true c = refl
or_moved true false c = refl
or_moved false true c = refl
or_moved false false c = refl

pub or_false : (a : Bool) → (a || false) ≡ a
or_false true = refl
or_false false = refl

any_nearest : (passes : Pkt → Bool) (gs : List Given) (before : List Pkt)
    → list_any passes (nearest gs before) ≡ (list_any passes (packets_in gs) || list_any passes before)
any_nearest passes [] before = refl
any_nearest passes (g ∷ gs) before =
    any_nearest passes gs (g.packet ∷ before) ∙ or_moved (list_any passes (packets_in gs)) (passes g.packet) (list_any passes before)

any_order : (passes : Pkt → Bool) (gs : List Given) → list_any passes (nearest gs []) ≡ list_any passes (packets_in gs)
any_order passes gs = any_nearest passes gs [] ∙ or_false (list_any passes (packets_in gs))

-- the line names this format, perhaps among others
names_format : List ℕ → Pkt → Bool
names_format format p = has_value (codes "object-format") format (key_in p) (value_in p) (spaced_words (value_in p))

names_any : Pkt → Bool
names_any p = has_key (codes "object-format") (key_in p) (value_in p) (spaced_words (value_in p))

spoken_order : (format : Format) (gs : List Given) → is_spoken (noted_of (nearest gs [])) format ≡ is_spoken (noted_of (packets_in gs)) format
unfolding names_format names_any
spoken_order Sha1 gs =
    ap (λ (a : Bool). a || not (list_any names_any (nearest gs []))) (any_order (names_format (codes "sha1")) gs)
    ∙ ap (λ (a : Bool). list_any (names_format (codes "sha1")) (packets_in gs) || not a) (any_order names_any gs)
spoken_order Sha256 gs = any_order (names_format (codes "sha256")) gs

-- ---- the places of an advertisement

-- after a line of the advertisement comes another, or its flush
pub line_expected : (t : Terms) (asked : List Asked) (line : List ℕ) (before : List Pkt) → flushes before ≡ 0
    → place_after t asked (payload line ∷ before) ≡ Some (capabilities (is_spoken (noted_of (payload line ∷ message_of before)) t.format))
line_expected t asked line before none = by t.ending where
  by : (ending : Ending) → place_after (terms_by t.agent t.format ending) asked (payload line ∷ before)
      ≡ Some (capabilities (is_spoken (noted_of (payload line ∷ message_of before)) t.format))
  by FlushOnly = rw none refl
  by ResponseEnd = rw none refl

-- no response end is expected after its flush
offer_ends : (ending : Ending) (before : List Pkt) → flushes before ≡ 0 → is_end_expected ending (flush ∷ before) ≡ false
offer_ends FlushOnly before none = refl
offer_ends ResponseEnd before none = ap (λ (n : ℕ). not (is_zero n)) none

module _ (t : Terms) (asked : List Asked) where
  -- these lines are the message so far, and another may follow
  record IsLine (before : List Pkt) : Type 0 where
    clear : flushes before ≡ 0
    message : message_of before ≡ before
    place : place_after t asked before ≡ Some (capabilities (is_spoken (noted_of before) t.format))

  next_line : (line : List ℕ) (before : List Pkt) → flushes before ≡ 0 → message_of before ≡ before → IsLine (payload line ∷ before)
  next_line line before clear message = record {
    clear = clear;
    message = ap (λ (l : List Pkt). payload line ∷ l) message;
    place = line_expected t asked line before clear ∙ ap (λ (l : List Pkt). Some (capabilities (is_spoken (noted_of (payload line ∷ l)) t.format))) message;
  }

  whole_offer : (before : List Pkt) → flushes before ≡ 0 → AreWhole t [] (flush ∷ before)
  whole_offer before clear = record { all_flushes = ap suc clear; no_end_expected = offer_ends t.ending before clear; no_message = refl }

  -- ---- if the rule is followed, each packet is in its place

  no_packets : (gs : List Given) → packets_in gs ≡ [] → gs ≡ []
  no_packets [] e = refl
  no_packets (g ∷ gs) e = absurd (cc)

  capability_at : (before : List Pkt) (p : Pkt) (now : List EventValue) → IsLine before → IsCapabilityLine p now
      → GivesAt t asked before p now × IsLine (p ∷ before)
  capability_at before (payload line) now is (clean, (key, value, e, content)) = (
    record {
      place = capabilities (is_spoken (noted_of before) t.format);
      is_place = is.place;
      gives = subst (Gives t.format t.ending (capabilities (is_spoken (noted_of before) t.format)) (payload line)) (sym e)
          (record { no_error = clean; conveys = content });
    },
    next_line line before is.clear is.message,
  )
  capability_at before flush now is h = absurd h
  capability_at before delim now is h = absurd h
  capability_at before resp_end now is h = absurd h

  flush_at : (before : List Pkt) → IsLine before → is_spoken (noted_of before) t.format ≡ true → GivesAt t asked before flush (offered ∷ [])
  flush_at before is spoken = record {
    place = capabilities (is_spoken (noted_of before) t.format);
    is_place = is.place;
    gives = ap (λ (b : Bool). cond b (Ok (offered ∷ [])) (Err WrongFormat)) spoken;
  }

  lines_go : (gs : List Given) (before : List Pkt) (es : List EventValue) → IsLine before → Many IsCapabilityLine IsOfferEnd (packets_in gs) es
      → is_spoken (noted_of (nearest gs before)) t.format ≡ true → GiveAll t asked before gs es × AreWhole t [] (nearest gs before)
  lines_go [] before es is (e, none) spoken = absurd (cc)
  lines_go (g ∷ gs) before es is (inl (e, gives)) spoken =
      let last : g.packet ≡ flush = cc in
      let rest : packets_in gs ≡ [] = cc in
      let none = no_packets gs rest in
      let end : nearest (g ∷ gs) before ≡ flush ∷ before = ap (λ (l : List Given). nearest l (g.packet ∷ before)) none ∙ ap (λ (p : Pkt). p ∷ before) last in
      let at : GivesAt t asked before g.packet (offered ∷ []) =
      subst (λ (p : Pkt). GivesAt t asked before p (offered ∷ [])) (sym last)
      (flush_at before is (ap (λ (l : List Pkt). is_spoken (noted_of l) t.format) (sym end) ∙ spoken)) in (
        (offered ∷ [], [], gives, at, subst (λ (l : List Given). GiveAll t asked (g.packet ∷ before) l []) (sym none) refl),
        subst (AreWhole t []) (sym end) (whole_offer before is.clear),
      )
  lines_go (g ∷ gs) before es is (inr (now, later, e, line, more)) spoken =
      let (at, next) = capability_at before g.packet now is line in
      let (others, whole) = lines_go gs (g.packet ∷ before) later next more spoken in
      ((now, later, e, at, others), whole)

  version_at : (p : Pkt) (now : List EventValue) → IsVersion p now → GivesAt t asked [] p now × IsLine (p ∷ [])
  version_at (payload line) now (clean, (text, none)) = (
    record {
      place = version;
      is_place = refl;
      gives = subst (Gives t.format t.ending version (payload line)) (sym none) (record { no_error = clean; conveys = text });
    },
    next_line line [] refl refl,
  )
  version_at flush now h = absurd h
  version_at delim now h = absurd h
  version_at resp_end now h = absurd h

  offer_goes : (gs : List Given) (es : List EventValue) → IsAdvertisement t.format (packets_in gs) es
      → GiveAll t asked [] gs es × AreWhole t [] (nearest gs [])
  offer_goes [] es (spoken, h) = absurd h
  offer_goes (g ∷ gs) es (spoken, (now, later, e, first, more)) =
      let (at, next) = version_at g.packet now first in
      let (others, whole) = lines_go gs (g.packet ∷ []) later next more (spoken_order t.format (g ∷ gs) ∙ spoken) in
      ((now, later, e, at, others), whole)

  -- ---- if each packet is in its place, the rule is followed

  -- the event of a line there
  line_conveys : (spoken : Bool) (format : Format) (text : List ℕ) (now : List EventValue) → GivesLine (capabilities spoken) format text now
      → (key : List ℕ) × (value : Option (List ℕ)) × (now ≡ capability key value ∷ []) × IsCapability text key value
  line_conveys spoken format text (capability key value ∷ []) h = (key, value, refl, h.conveys)
  line_conveys spoken format text now h = absurd h.conveys

  version_conveys : (format : Format) (text : List ℕ) (now : List EventValue) → GivesLine version format text now → (text ≡ codes "version 2") × (now ≡ [])
  version_conveys format text [] h = (h.conveys, refl)
  version_conveys format text (event ∷ now) h = absurd h.conveys

  -- the event of a flush there
  flush_spoken : (spoken : Bool) (now : List EventValue) → events_of_flush t.ending (capabilities spoken) ≡ Ok now → (spoken ≡ true) × (now ≡ offered ∷ [])
  flush_spoken true now e = (refl, cc)
  flush_spoken false now e = absurd (cc)

  place_here : (before : List Pkt) (p : Pkt) (now : List EventValue) → IsLine before → GivesAt t asked before p now
      → Gives t.format t.ending (capabilities (is_spoken (noted_of before) t.format)) p now
  place_here before p now is at =
      let both = sym at.is_place ∙ is.place in
      let same : at.place ≡ capabilities (is_spoken (noted_of before) t.format) = cc in
      subst (λ (x : Place). Gives t.format t.ending x p now) same at.gives

module _ (t : Terms) where
  nothing_more : (asked : List Asked) (gs : List Given) (before : List Pkt) (es : List EventValue) → AreWhole t asked before → GiveAll t asked before gs es
      → (gs ≡ []) × (es ≡ [])
  nothing_more asked [] before es whole h = (refl, h)
  nothing_more asked (g ∷ gs) before es whole h = let none = sym (none_expected t asked before whole) ∙ h.3.is_place in absurd (cc)

  -- a packet there is a line or the flush
  line_or_end : (spoken : Bool) (p : Pkt) (now : List EventValue) → Gives t.format t.ending (capabilities spoken) p now
      → (IsCapabilityLine p now × (line : List ℕ) × (p ≡ payload line)) ⊎ ((p ≡ flush) × (spoken ≡ true) × (now ≡ offered ∷ []))
  line_or_end spoken (payload line) now h = inl ((h.no_error, line_conveys t [] spoken t.format (text_of line) now h), line, refl)
  line_or_end spoken flush now h = let (is, gives) = flush_spoken t [] spoken now h in inr (refl, is, gives)
  line_or_end spoken delim now h = absurd (cc)
  line_or_end spoken resp_end now h = absurd (cc)

  first_line : (p : Pkt) (now : List EventValue) → Gives t.format t.ending version p now → IsVersion p now × (line : List ℕ) × (p ≡ payload line)
  first_line (payload line) now h = ((h.no_error, version_conveys t [] t.format (text_of line) now h), line, refl)
  first_line flush now h = absurd (cc)
  first_line delim now h = absurd (cc)
  first_line resp_end now h = absurd (cc)

  after_line : (p : Pkt) (before : List Pkt) (line : List ℕ) → p ≡ payload line → flushes before ≡ 0 → message_of before ≡ before → IsLine t [] (p ∷ before)
  after_line p before line is clear message =
      subst (λ (q : Pkt). IsLine t [] (q ∷ before)) (sym is) (next_line t [] line before clear message)

  lines_come : (gs : List Given) (before : List Pkt) (es : List EventValue) → IsLine t [] before → GiveAll t [] before gs es → AreWhole t [] (nearest gs before)
      → Many IsCapabilityLine IsOfferEnd (packets_in gs) es × (is_spoken (noted_of (nearest gs before)) t.format ≡ true)
  lines_come [] before es is h whole = absurd (omega (arith, is.clear, whole.all_flushes))
  lines_come (g ∷ gs) before es is (now, later, e, at, rest) whole =
      elim (line_or_end (is_spoken (noted_of before) t.format) g.packet now (place_here t [] before g.packet now is at)) [
        | inl (line, text, payload_is) ↦
            let next = after_line g.packet before text payload_is is.clear is.message in
            let (more, spoken) = lines_come gs (g.packet ∷ before) later next rest whole in
            (inr (now, later, e, line, more), spoken)
        | inr (last, spoken, gives) ↦
            let ended : AreWhole t [] (g.packet ∷ before) =
            subst (λ (p : Pkt). AreWhole t [] (p ∷ before)) (sym last) (whole_offer t [] before is.clear) in
            let (none, nothing) = nothing_more [] gs (g.packet ∷ before) later ended rest in
            let end : nearest (g ∷ gs) before ≡ flush ∷ before =
            ap (λ (l : List Given). nearest l (g.packet ∷ before)) none ∙ ap (λ (p : Pkt). p ∷ before) last in (
              inl (
                ap (λ (l : List Given). g.packet ∷ packets_in l) none ∙ ap (λ (p : Pkt). p ∷ []) last,
                e ∙ ap (λ (l : List EventValue). l ++ later) gives ∙ ap (λ (l : List EventValue). offered ∷ l) nothing,
              ),
              ap (λ (l : List Pkt). is_spoken (noted_of l) t.format) end ∙ spoken,
            )
      ]

  offer_comes : (gs : List Given) (es : List EventValue) → GiveAll t [] [] gs es → AreWhole t [] (nearest gs []) → IsAdvertisement t.format (packets_in gs) es
  offer_comes [] es h whole = let count : 0 ≡ 1 = whole.all_flushes in absurd (cc)
  offer_comes (g ∷ gs) es (now, later, e, at, rest) whole =
      let here = at.is_place in
      let same : at.place ≡ version = cc in
      let (first, line, payload_is) = first_line g.packet now (subst (λ (x : Place). Gives t.format t.ending x g.packet now) same at.gives) in
      let (more, spoken) = lines_come gs (g.packet ∷ []) later (after_line g.packet [] line payload_is refl refl) rest whole in
      (sym (spoken_order t.format (g ∷ gs)) ∙ spoken, (now, later, e, first, more))

-- ---- the first message

-- a place before its answer does not depend on what is asked later
slice_get_less : {X : Type 0} (xs more : List X) (k : ℕ) → k < length xs → slice_get (xs ++ more) k ≡ slice_get xs k
slice_get_less [] more k few = absurd (omega (arith, few))
slice_get_less (x ∷ xs) more zero few = refl
slice_get_less (x ∷ xs) more (suc k) few = slice_get_less xs more k (omega (arith, few))

part_less : (asked more : List Asked) (n : ℕ) → n ≤ length asked → part_after (asked ++ more) n ≡ part_after asked n
part_less asked more zero few = refl
part_less asked more (suc k) few = ap answer_to (slice_get_less asked more k (omega (arith, few)))

module _ (t : Terms) (asked more : List Asked) where
  place_less : (before : List Pkt) → (is_end_expected t.ending before ≡ true) ⊎ (flushes before ≤ length asked)
      → place_after t (asked ++ more) before ≡ place_after t asked before
  place_less [] h = refl
  place_less (p ∷ before) (inl expected) =
      let message = message_of (p ∷ before) in
      let count = flushes (p ∷ before) in
      ap (λ (ends : Bool). place_of t.format (cond ends (Some closing) (part_after (asked ++ more) count)) message) expected
      ∙ sym (ap (λ (ends : Bool). place_of t.format (cond ends (Some closing) (part_after asked count)) message) expected)
  place_less (p ∷ before) (inr few) =
      ap (λ (o : Option Part). place_of t.format (cond (is_end_expected t.ending (p ∷ before)) (Some closing) o) (message_of (p ∷ before)))
      (part_less asked more (flushes (p ∷ before)) few)

  gives_less : (before : List Pkt) (p : Pkt) (now : List EventValue) → (is_end_expected t.ending before ≡ true) ⊎ (flushes before ≤ length asked)
      → GivesAt t (asked ++ more) before p now → GivesAt t asked before p now
  gives_less before p now within at = record { place = at.place; is_place = sym (place_less before within) ∙ at.is_place; gives = at.gives }

  -- the packets begin with a message that completes the conversation of those before them
  record FirstWhole (before : List Pkt) (gs : List Given) (es : List EventValue) : Type 0 where
    front : List Given
    back : List Given
    now : List EventValue
    later : List EventValue
    parts : gs ≡ front ++ back
    events : es ≡ now ++ later
    gives : GiveAll t asked before front now
    whole : AreWhole t asked (nearest front before)
    onward : GiveAll t (asked ++ more) (nearest front before) back later

  -- a packet is a flush, or adds none
  flush_or_none : (p : Pkt) (before : List Pkt) → (p ≡ flush) ⊎ (flushes (p ∷ before) ≡ flushes before)
  flush_or_none flush before = inl refl
  flush_or_none delim before = inr refl
  flush_or_none resp_end before = inr refl
  flush_or_none (payload line) before = inr refl

  -- if a response end is expected, nothing else may come
  response_end_is : (before : List Pkt) (p q : Pkt) (now : List EventValue) → is_end_expected t.ending (q ∷ before) ≡ true
      → GivesAt t (asked ++ more) (q ∷ before) p now → p ≡ resp_end
  response_end_is before p q now expected at = by p place gives where
    place : at.place ≡ response_end
    place =
        let message = message_of (q ∷ before) in
        let here = sym at.is_place
        ∙ ap (λ (ends : Bool). place_of t.format (cond ends (Some closing) (part_after (asked ++ more) (flushes (q ∷ before)))) message) expected in
        cc

    gives : Gives t.format t.ending at.place p now
    gives = at.gives

    by : (p : Pkt) → at.place ≡ response_end → Gives t.format t.ending at.place p now → p ≡ resp_end
    by p is h = only p (subst (λ (x : Place). Gives t.format t.ending x p now) is h) where
      only : (p : Pkt) → Gives t.format t.ending response_end p now → p ≡ resp_end
      only resp_end h = refl
      only flush h = absurd (cc)
      only delim h = absurd (cc)
      only (payload line) h = absurd h

  resp_end_whole : (before : List Pkt) (q : Pkt) → q ≡ flush → flushes before ≡ length asked → AreWhole t asked (resp_end ∷ (q ∷ before))
  resp_end_whole before q last count = record {
    all_flushes = ap (λ (p : Pkt). flushes (p ∷ before)) last ∙ ap suc count;
    no_end_expected = none_after t.ending (q ∷ before);
    no_message = refl;
  } where
    none_after : (ending : Ending) (packets : List Pkt) → is_end_expected ending (resp_end ∷ packets) ≡ false
    none_after FlushOnly packets = refl
    none_after ResponseEnd packets = refl

  -- the message ends with its flush, or with the response end after it
  message_ends : (expected : Bool) (g : Given) (gs : List Given) (before : List Pkt) (es now later : List EventValue)
      → is_end_expected t.ending (g.packet ∷ before) ≡ expected
      → g.packet ≡ flush → flushes before ≡ length asked → es ≡ now ++ later → GivesAt t (asked ++ more) before g.packet now
      → GiveAll t (asked ++ more) (g.packet ∷ before) gs later → is_end_expected t.ending (nearest gs (g.packet ∷ before)) ≡ false
      → FirstWhole before (g ∷ gs) es
  message_ends false g gs before es now later expected last count e at rest none = record {
    front = g ∷ [];
    back = gs;
    now = now;
    later = later;
    parts = refl;
    events = e;
    gives = (now, [], sym (append-nil now), gives_less before g.packet now (inr (omega (arith, count))) at, refl);
    whole = record {
      all_flushes = ap (λ (p : Pkt). flushes (p ∷ before)) last ∙ ap suc count;
      no_end_expected = expected;
      no_message = ap (λ (p : Pkt). message_of (p ∷ before)) last;
    };
    onward = rest;
  }
  message_ends true g [] before es now later expected last count e at rest none = absurd (cc)
  message_ends true g (r ∷ gs) before es now later expected last count e at (then, others, split, next, rest) none =
      let end = response_end_is before r.packet g.packet then expected next in
      record {
        front = g ∷ r ∷ [];
        back = gs;
        now = now ++ then;
        later = others;
        parts = refl;
        events = e ∙ ap (λ (l : List EventValue). now ++ l) split ∙ sym (append_assoc now then others);
        gives = (
          now,
          then,
          refl,
          gives_less before g.packet now (inr (omega (arith, count))) at,
          (then, [], sym (append-nil then), gives_less (g.packet ∷ before) r.packet then (inl expected) next, refl),
        );
        whole = subst (λ (p : Pkt). AreWhole t asked (p ∷ (g.packet ∷ before))) (sym end) (resp_end_whole before g.packet last count);
        onward = rest;
      }

  first_whole : (gs : List Given) (before : List Pkt) (es : List EventValue) → GiveAll t (asked ++ more) before gs es → flushes before ≡ length asked
      → suc (length asked) ≤ flushes (nearest gs before) → is_end_expected t.ending (nearest gs before) ≡ false → FirstWhole before gs es
  first_whole [] before es h count some none = absurd (omega (arith, count, some))
  first_whole (g ∷ gs) before es (now, later, e, at, rest) count some none = elim (flush_or_none g.packet before) [
    | inl last ↦ message_ends (is_end_expected t.ending (g.packet ∷ before)) g gs before es now later refl last count e at rest none
    | inr same ↦
        let then = first_whole gs (g.packet ∷ before) later rest (same ∙ count) some none in
        record {
          front = g ∷ then.front;
          back = then.back;
          now = now ++ then.now;
          later = then.later;
          parts = ap (λ (l : List Given). g ∷ l) then.parts;
          events = e ∙ ap (λ (l : List EventValue). now ++ l) then.events ∙ sym (append_assoc now then.now then.later);
          gives = (now, then.now, refl, gives_less before g.packet now (inr (omega (arith, count))) at, then.gives);
          whole = then.whole;
          onward = then.onward;
        }
  ]

-- ---- all messages

module _ (t : Terms) where
  responses_go : (asked earlier : List Asked) (before : List Pkt) (gs : List Given) (es : List EventValue) → AreWhole t earlier before
      → AreResponses t asked (packets_in gs) es → GiveAll t (earlier ++ asked) before gs es × AreWhole t (earlier ++ asked) (nearest gs before)
  responses_go [] earlier before [] es whole (none, nothing) = (nothing, subst (λ (l : List Asked). AreWhole t l before) (sym (append-nil earlier)) whole)
  responses_go [] earlier before (g ∷ gs) es whole (none, nothing) = absurd (cc)
  responses_go (q ∷ asked) earlier before gs es whole (front, back, now, later, parts, events, response, others) =
      let c = cut_at gs front back parts in
      let (gives, ended) = (response_is t earlier q before c.first now whole).0
      (subst (λ (ps : List Pkt). IsResponse t.format t.ending q ps now) (sym c.first_are) response) in
      let (more, all) = responses_go asked (earlier ++ q ∷ []) (nearest c.first before) c.second later ended
      (subst (λ (ps : List Pkt). AreResponses t asked ps later) (sym c.second_are) others) in
      let regroup = append_assoc earlier (q ∷ []) asked in
      let joined : GiveAll t ((earlier ++ q ∷ []) ++ asked) before (c.first ++ c.second) (now ++ later) =
      give_all_append t ((earlier ++ q ∷ []) ++ asked) before c.first c.second now later
      (gives_more t (earlier ++ q ∷ []) asked before c.first now gives) more in (
        subst (λ (l : List Asked). GiveAll t l before gs es) regroup
            (subst (GiveAll t ((earlier ++ q ∷ []) ++ asked) before gs) (sym events)
            (subst (λ (l : List Given). GiveAll t ((earlier ++ q ∷ []) ++ asked) before l (now ++ later)) (sym c.whole) joined)),
        subst (λ (l : List Asked). AreWhole t l (nearest gs before)) regroup
            (subst (AreWhole t ((earlier ++ q ∷ []) ++ asked))
            (sym (ap (λ (l : List Given). nearest l before) c.whole ∙ nearest-append c.first c.second before)) all),
      )

  responses_come : (asked earlier : List Asked) (before : List Pkt) (gs : List Given) (es : List EventValue) → AreWhole t earlier before
      → GiveAll t (earlier ++ asked) before gs es → flushes (nearest gs before) ≡ suc (length (earlier ++ asked))
      → is_end_expected t.ending (nearest gs before) ≡ false → AreResponses t asked (packets_in gs) es
  responses_come [] earlier before gs es whole h count none =
      let (nothing, silent) = nothing_more t earlier gs before es whole (subst (λ (l : List Asked). GiveAll t l before gs es) (append-nil earlier) h) in
      (ap packets_in nothing, silent)
  responses_come (q ∷ asked) earlier before gs es whole h count none =
      let content = earlier ++ q ∷ [] in
      let long = length-append earlier (q ∷ []) in
      let regroup = append_assoc earlier (q ∷ []) asked in
      let all : GiveAll t (content ++ asked) before gs es = subst (λ (l : List Asked). GiveAll t l before gs es) (sym regroup) h in
      let f = first_whole t content asked gs before es all (omega (arith, whole.all_flushes, long))
      (omega (arith, count, long, length-append earlier (q ∷ asked))) none in
      let end : nearest gs before ≡ nearest f.back (nearest f.front before) =
      ap (λ (l : List Given). nearest l before) f.parts ∙ nearest-append f.front f.back before in (
        packets_in f.front,
        packets_in f.back,
        f.now,
        f.later,
        ap packets_in f.parts ∙ map-append (λ (g : Given). g.packet) f.front f.back,
        f.events,
        (response_is t earlier q before f.front f.now whole).1 (f.gives, f.whole),
        responses_come asked content (nearest f.front before) f.back f.later f.whole f.onward
            (ap flushes (sym end) ∙ count ∙ ap (λ (l : List Asked). suc (length l)) (sym regroup))
            (ap (is_end_expected t.ending) (sym end) ∙ none),
      )

  comes_by_messages : (asked : List Asked) (bytes : List ℕ) (es : List EventValue) → IsConversation t asked bytes es → GoesByMessages t asked bytes es
  comes_by_messages asked bytes es c =
      let f = first_whole t [] asked c.given [] es c.gives refl (omega (arith, c.all_flushes)) c.no_end_expected in
      let end : nearest c.given [] ≡ nearest f.back (nearest f.front []) =
      ap (λ (l : List Given). nearest l []) f.parts ∙ nearest-append f.front f.back [] in
      record {
        given = c.given;
        splits = c.splits;
        goes = (
          packets_in f.front,
          packets_in f.back,
          f.now,
          f.later,
          ap packets_in f.parts ∙ map-append (λ (g : Given). g.packet) f.front f.back,
          f.events,
          offer_comes t f.front f.now f.gives f.whole,
          responses_come asked [] (nearest f.front []) f.back f.later f.whole f.onward (ap flushes (sym end) ∙ c.all_flushes)
              (ap (is_end_expected t.ending) (sym end) ∙ c.no_end_expected),
        );
      }

  goes_by_places : (asked : List Asked) (bytes : List ℕ) (es : List EventValue) → GoesByMessages t asked bytes es → IsConversation t asked bytes es
  goes_by_places asked bytes es m =
      let (front, back, now, later, parts, events, offer, others) = m.goes in
      let c = cut_at m.given front back parts in
      let (gives, ended) = offer_goes t asked c.first now (subst (λ (ps : List Pkt). IsAdvertisement t.format ps now) (sym c.first_are) offer) in
      let (more, all) = responses_go asked [] (nearest c.first []) c.second later ended
      (subst (λ (ps : List Pkt). AreResponses t asked ps later) (sym c.second_are) others) in
      let end : nearest m.given [] ≡ nearest c.second (nearest c.first []) =
      ap (λ (l : List Given). nearest l []) c.whole ∙ nearest-append c.first c.second [] in
      record {
        given = m.given;
        splits = m.splits;
        gives = subst (GiveAll t asked [] m.given) (sym events)
            (subst (λ (l : List Given). GiveAll t asked [] l (now ++ later)) (sym c.whole)
            (give_all_append t asked [] c.first c.second now later gives more));
        all_flushes = ap flushes end ∙ all.all_flushes;
        no_end_expected = ap (is_end_expected t.ending) end ∙ all.no_end_expected;
      }

pub conversation_is : (t : Terms) (asked : List Asked) (bytes : List ℕ) (es : List EventValue)
    → IsConversation t asked bytes es ↔ GoesByMessages t asked bytes es
conversation_is t asked bytes es = (comes_by_messages t asked bytes es, goes_by_places t asked bytes es)

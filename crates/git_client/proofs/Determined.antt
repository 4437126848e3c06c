-- The events and the errors of packets are determined by the packets and by what was asked.
use Rattle.std.proofs.Common.{◌≡◌, inl, inr, ℕ, List, [], ◌∷◌, ◌++◌, Option, Some, Result, Ok, Err, ap, sym, ◌∙◌, refl, subst}
use Rattle.git_names.specs.declared.object_format.Format.{Format}
use Rattle.git_pkt.specs.Packets.{Pkt, flush, delim, resp_end, payload, text_of}
use Rattle.git_pkt.specs.Splits.{Given}
use Rattle.git_pkt.specs.declared.fault.Kind.{Kind}
use Rattle.git_pkt.proofs.Streams.{one_split}
use Rattle.git_msg.specs.Advertisement.{noted_of}
use Rattle.git_msg.specs.Asked.{Asked}
use Rattle.git_msg.specs.declared.offers.Caps.{Caps}
use Rattle.git_client.specs.declared.events.Ending.{Ending}
use Rattle.git_client.specs.Parts.{Terms, nearest, advertisement_of}
use Rattle.git_client.specs.Places.{Place, packfile, response_end, place_after}
use Rattle.git_client.specs.Events.{EventValue, GivesLine, RefusesLine, Gives, Refuses}
use Rattle.git_client.specs.Opened.{IsOfRest, opened_in, unless_refused}
use Rattle.git_client.specs.Conversation.{GivesAt, RefusesAt, GiveAll, IsStop, FirstFault, Sounds, HasEvents, HasNoted}
use Rattle.git_client.proofs.PlaceLines.{one_line, line_or_fault, one_line_fault}

-- a computed result is unique
one_content : (conveys : Result (List EventValue) Kind) (events others : List EventValue) → conveys ≡ Ok events → conveys ≡ Ok others → events ≡ others
one_content conveys events others h k = cc

one_error : (conveys : Result (List EventValue) Kind) (kind other : Kind) → conveys ≡ Err kind → conveys ≡ Err other → kind ≡ other
one_error conveys kind other h k = cc

stated_or_error : (conveys : Result (List EventValue) Kind) (events : List EventValue) (kind : Kind) → conveys ≡ Ok events → conveys ≡ Err kind → ⊥
stated_or_error conveys events kind h k = cc

-- a text line at a place has one list of events, or one error
one_line_gift : (place : Place) (format : Format) (text : List ℕ) (events others : List EventValue) → GivesLine place format text events
    → GivesLine place format text others → events ≡ others
one_line_gift place format text events others h k = one_line place format text events others h.conveys k.conveys

one_line_refusal : (place : Place) (format : Format) (text : List ℕ) (kind other : Kind) → RefusesLine place format text kind
    → RefusesLine place format text other → kind ≡ other
one_line_refusal place format text kind other (inl h) (inl k) = h.1 ∙ sym k.1
one_line_refusal place format text kind other (inl h) (inr k) = absurd (k.0 h.0)
one_line_refusal place format text kind other (inr h) (inl k) = absurd (h.0 k.0)
one_line_refusal place format text kind other (inr h) (inr k) = one_line_fault place format text kind other h.1 k.1

line_excluded : (place : Place) (format : Format) (text : List ℕ) (events : List EventValue) (kind : Kind) → GivesLine place format text events
    → RefusesLine place format text kind → ⊥
line_excluded place format text events kind h (inl k) = h.no_error k.0
line_excluded place format text events kind h (inr k) = line_or_fault place format text events kind h.conveys k.1

-- and so has every packet
gift_in : (format : Format) (ending : Ending) (place : Place) (p : Pkt) (events others : List EventValue) → Gives format ending place p events
    → Gives format ending place p others → events ≡ others
gift_in format ending packfile (payload bytes) events others h k = one_content _ events others h k
gift_in format ending response_end (payload bytes) events others h k = absurd h
gift_in format ending place (payload bytes) events others h k = one_line_gift place format (text_of bytes) events others h k
gift_in format ending place flush events others h k = one_content _ events others h k
gift_in format ending place delim events others h k = one_content _ events others h k
gift_in format ending place resp_end events others h k = one_content _ events others h k

refusal_in : (format : Format) (ending : Ending) (place : Place) (p : Pkt) (kind other : Kind) → Refuses format ending place p kind
    → Refuses format ending place p other → kind ≡ other
refusal_in format ending packfile (payload bytes) kind other h k = one_error _ kind other h k
refusal_in format ending response_end (payload bytes) kind other h k = h ∙ sym k
refusal_in format ending place (payload bytes) kind other h k = one_line_refusal place format (text_of bytes) kind other h k
refusal_in format ending place flush kind other h k = one_error _ kind other h k
refusal_in format ending place delim kind other h k = one_error _ kind other h k
refusal_in format ending place resp_end kind other h k = one_error _ kind other h k

excluded_in : (format : Format) (ending : Ending) (place : Place) (p : Pkt) (events : List EventValue) (kind : Kind)
    → Gives format ending place p events → Refuses format ending place p kind → ⊥
excluded_in format ending packfile (payload bytes) events kind h k = stated_or_error _ events kind h k
excluded_in format ending response_end (payload bytes) events kind h k = h
excluded_in format ending place (payload bytes) events kind h k = line_excluded place format (text_of bytes) events kind h k
excluded_in format ending place flush events kind h k = stated_or_error _ events kind h k
excluded_in format ending place delim events kind h k = stated_or_error _ events kind h k
excluded_in format ending place resp_end events kind h k = stated_or_error _ events kind h k

-- a packet has one place
same_place : (t : Terms) (asked : List Asked) (before : List Pkt) (a b : Place) → place_after t asked before ≡ Some a
    → place_after t asked before ≡ Some b → b ≡ a
same_place t asked before a b h k = let both = sym h ∙ k in cc

pub one_gift : (t : Terms) (asked : List Asked) (before : List Pkt) (p : Pkt) (events others : List EventValue) → GivesAt t asked before p events
    → GivesAt t asked before p others → events ≡ others
one_gift t asked before p events others h k =
    let same = same_place t asked before h.place k.place h.is_place k.is_place in
    gift_in t.format t.ending h.place p events others h.gives (subst (λ (place : Place). Gives t.format t.ending place p others) same k.gives)

pub one_refusal : (t : Terms) (asked : List Asked) (before : List Pkt) (p : Pkt) (kind other : Kind) → RefusesAt t asked before p kind
    → RefusesAt t asked before p other → kind ≡ other
one_refusal t asked before p kind other h k =
    let same = same_place t asked before h.place k.place h.is_place k.is_place in
    refusal_in t.format t.ending h.place p kind other h.refuses (subst (λ (place : Place). Refuses t.format t.ending place p other) same k.refuses)

pub excluded : (t : Terms) (asked : List Asked) (before : List Pkt) (p : Pkt) (events : List EventValue) (kind : Kind) → GivesAt t asked before p events
    → RefusesAt t asked before p kind → ⊥
excluded t asked before p events kind h k =
    let same = same_place t asked before h.place k.place h.is_place k.is_place in
    excluded_in t.format t.ending h.place p events kind h.gives (subst (λ (place : Place). Refuses t.format t.ending place p kind) same k.refuses)

stopped : (t : Terms) (asked : List Asked) (before : List Pkt) (g : Given) (gs more : List Given) (now : List EventValue) → more ≡ g ∷ gs
    → IsStop t asked before more → GivesAt t asked before g.packet now → ⊥
stopped t asked before g gs [] now e s a = absurd (cc)
stopped t asked before g gs (h ∷ hs) now e s a =
    let same : h ≡ g = cc in
    excluded t asked before h.packet now s.0 (subst (λ (x : Given). GivesAt t asked before x.packet now) (sym same) a) s.1

-- two cuts before the first refused packet are the same
pub record SameCut (clean others more tail : List Given) (events later : List EventValue) : Type 0 where
  pub clean_is : clean ≡ others
  pub more_is : more ≡ tail
  pub events_are : events ≡ later

pub same_cut : (t : Terms) (asked : List Asked) (before : List Pkt) (clean others more tail : List Given) (events later : List EventValue)
    → clean ++ more ≡ others ++ tail → GiveAll t asked before clean events → GiveAll t asked before others later → IsStop t asked (nearest clean before) more
    → IsStop t asked (nearest others before) tail → SameCut clean others more tail events later
same_cut t asked before [] [] more tail events later e a b s z = record { clean_is = refl; more_is = e; events_are = a ∙ sym b }
same_cut t asked before [] (h ∷ hs) more tail events later e a b s z = absurd (stopped t asked before h (hs ++ tail) more b.0 e s b.3)
same_cut t asked before (g ∷ gs) [] more tail events later e a b s z = absurd (stopped t asked before g (gs ++ more) tail a.0 (sym e) z a.3)
same_cut t asked before (g ∷ gs) (h ∷ hs) more tail events later e a b s z =
    let head : h ≡ g = cc in
    let rest : gs ++ more ≡ hs ++ tail = cc in
    let now : a.0 ≡ b.0 = one_gift t asked before g.packet a.0 b.0 a.3 (subst (λ (x : Given). GivesAt t asked before x.packet b.0) head b.3) in
    let moved : GiveAll t asked (g.packet ∷ before) hs b.1 = subst (λ (x : Given). GiveAll t asked (x.packet ∷ before) hs b.1) head b.4 in
    let stop : IsStop t asked (nearest hs (g.packet ∷ before)) tail = subst (λ (x : Given). IsStop t asked (nearest hs (x.packet ∷ before)) tail) head z in
    let then = same_cut t asked (g.packet ∷ before) gs hs more tail a.1 b.1 rest a.4 moved s stop in
    record {
      clean_is = ap (λ (x : Given). x ∷ gs) (sym head) ∙ ap (λ (l : List Given). h ∷ l) then.clean_is;
      more_is = then.more_is;
      events_are = a.2 ∙ ap (λ (l : List EventValue). l ++ a.1) now ∙ ap (λ (l : List EventValue). b.0 ++ l) then.events_are ∙ sym b.2;
    }

pub same_sounds : (t : Terms) (asked : List Asked) (bytes : List ℕ) (clean others : List Given) (events later : List EventValue)
    (a : Sounds t asked bytes clean events) (b : Sounds t asked bytes others later) → SameCut clean others a.more b.more events later
same_sounds t asked bytes clean others events later a b =
    let same = one_split 0 bytes a.given b.given a.rest b.rest a.splits.spelled b.splits.spelled a.splits.ends b.splits.ends in
    same_cut t asked [] clean others a.more b.more events later (sym a.cut ∙ same.packets ∙ b.cut) a.gives b.gives a.stops b.stops

-- the part of a rest that is open is unique
pub one_opened : {X : Type 0} (rest : List ℕ) (part a b : List X) → IsOfRest rest part a → IsOfRest rest part b → a ≡ b
one_opened rest part a b h k =
    elim h [
      | inl x ↦ elim k [ inl y ↦ x.1 ∙ sym y.1 | inr y ↦ absurd (y.0 x.0) ]
      | inr x ↦ elim k [ inl y ↦ absurd (x.0 y.0) | inr y ↦ x.1 ∙ sym y.1 ]
    ]

-- the open rest does not depend on how the bytes were cut into packets
pub moved_rest : {X : Type 0} (t : Terms) (asked : List Asked) (bytes : List ℕ) (clean others : List Given) (whole later : List EventValue)
    (a : Sounds t asked bytes clean whole) (b : Sounds t asked bytes others later) (part : Option Place → List ℕ → List X) (opened : List X)
    → IsOfRest a.rest (unless_refused a.more (part (place_after t asked (nearest clean [])) a.rest)) opened
    → IsOfRest b.rest (unless_refused b.more (part (place_after t asked (nearest others [])) b.rest)) opened
moved_rest t asked bytes clean others whole later a b part opened h =
    let same = same_sounds t asked bytes clean others whole later a b in
    let rest : a.rest ≡ b.rest =
    (one_split 0 bytes a.given b.given a.rest b.rest a.splits.spelled b.splits.spelled a.splits.ends b.splits.ends).rest_is in
    subst (λ (l : List ℕ). IsOfRest l (unless_refused b.more (part (place_after t asked (nearest others [])) l)) opened) rest
    (subst (λ (l : List Given). IsOfRest a.rest (unless_refused b.more (part (place_after t asked (nearest l [])) a.rest)) opened) same.clean_is
    (subst (λ (l : List Given). IsOfRest a.rest (unless_refused l (part (place_after t asked (nearest clean [])) a.rest)) opened) same.more_is h))

pub one_event_list : (t : Terms) (asked : List Asked) (bytes : List ℕ) (events others : List EventValue) → HasEvents t asked bytes events
    → HasEvents t asked bytes others → events ≡ others
one_event_list t asked bytes events others h k =
    let opened : h.opened ≡ k.opened =
    one_opened k.sounds.rest _ h.opened k.opened
    (moved_rest t asked bytes h.clean k.clean h.whole k.whole h.sounds k.sounds opened_in h.opened h.of_rest) k.of_rest in
    h.events_are
    ∙ ap (λ (l : List EventValue). l ++ h.opened) (same_sounds t asked bytes h.clean k.clean h.whole k.whole h.sounds k.sounds).events_are
    ∙ ap (λ (l : List EventValue). k.whole ++ l) opened
    ∙ sym k.events_are

pub one_note : (t : Terms) (asked : List Asked) (bytes : List ℕ) (caps others : Caps) → HasNoted t asked bytes caps
    → HasNoted t asked bytes others → caps ≡ others
one_note t asked bytes caps others h k =
    h.3 ∙ ap (λ (l : List Given). noted_of (advertisement_of (nearest l []))) (same_sounds t asked bytes h.0 k.0 h.1 k.1 h.2 k.2).clean_is ∙ sym k.3

pub one_first_fault : (t : Terms) (asked : List Asked) (given : List Given) (kind other : Kind) (offset place : ℕ) → FirstFault t asked given kind offset
    → FirstFault t asked given other place → (kind ≡ other) × (offset ≡ place)
one_first_fault t asked given kind other offset place h k =
    let same =
    same_cut t asked [] h.clean k.clean (h.bad ∷ h.more) (k.bad ∷ k.more) h.events k.events (sym h.cut ∙ k.cut) h.sound k.sound (kind, h.refused)
    (other, k.refused) in
    let more : h.bad ∷ h.more ≡ k.bad ∷ k.more = same.more_is in
    let bad : k.bad ≡ h.bad = cc in
    let before : k.clean ≡ h.clean = sym same.clean_is in
    let moved : RefusesAt t asked (nearest h.clean []) k.bad.packet other =
    subst (λ (l : List Given). RefusesAt t asked (nearest l []) k.bad.packet other) before k.refused in
    let refused : RefusesAt t asked (nearest h.clean []) h.bad.packet other =
    subst (λ (g : Given). RefusesAt t asked (nearest h.clean []) g.packet other) bad moved in
    (one_refusal t asked (nearest h.clean []) h.bad.packet kind other h.refused refused, h.at ∙ ap (λ (g : Given). g.offset) (sym bad) ∙ sym k.at)

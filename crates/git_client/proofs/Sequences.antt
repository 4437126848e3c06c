-- One more packet after those before it, and requests that are asked later.
use Rattle.std.proofs.Common.{arith, ◌≡◌, ◌⊎◌, inl, inr, ℕ, zero, suc, ◌+◌, Bool, true, false, List, [], ◌∷◌, ◌++◌}
use Rattle.std.proofs.Common.{Option, Some, None, refl, sym, ap, ◌∙◌, subst, append_assoc, cond, slice_get}
use Rattle.std.proofs.lemmas.List.{append-nil}
use Rattle.git_pkt.specs.Packets.{Pkt, flushes}
use Rattle.git_pkt.specs.Splits.{Given}
use Rattle.git_msg.specs.Asked.{Asked}
use Rattle.git_client.specs.Parts.{Terms, Part, closing, nearest, is_zero, advertisement_of, message_of, is_end_expected, answer_to, part_after, part_of}
use Rattle.git_client.specs.Places.{Place}
use Rattle.git_client.specs.Places.{place_of, place_after}
use Rattle.git_client.specs.Events.{EventValue, offered, ended}
use Rattle.git_client.specs.Events.{turns_of}
use Rattle.git_client.specs.Conversation.{GivesAt, GiveAll}
use Rattle.git_client.proofs.PlacePackets.{nothing_expected, comes_after, one_if, packet_adds}

pub nearest_push : (gs : List Given) (g : Given) (before : List Pkt) → nearest (gs ++ g ∷ []) before ≡ g.packet ∷ nearest gs before
nearest_push [] g before = refl
nearest_push (h ∷ gs) g before = nearest_push gs g (h.packet ∷ before)

pub nearest-append : (gs hs : List Given) (before : List Pkt) → nearest (gs ++ hs) before ≡ nearest hs (nearest gs before)
nearest-append [] hs before = refl
nearest-append (g ∷ gs) hs before = nearest-append gs hs (g.packet ∷ before)

pub give_all_append : (t : Terms) (asked : List Asked) (before : List Pkt) (gs hs : List Given) (events more : List EventValue)
    → GiveAll t asked before gs events → GiveAll t asked (nearest gs before) hs more → GiveAll t asked before (gs ++ hs) (events ++ more)
give_all_append t asked before [] hs events more none h =
    subst (λ (l : List EventValue). GiveAll t asked before hs (l ++ more)) (sym none) h
give_all_append t asked before (g ∷ gs) hs events more (first, later, e, at, rest) h = (
  first,
  later ++ more,
  ap (λ (l : List EventValue). l ++ more) e ∙ append_assoc first later more,
  at,
  give_all_append t asked (g.packet ∷ before) gs hs later more rest h,
)

pub give_all_push : (t : Terms) (asked : List Asked) (before : List Pkt) (gs : List Given) (g : Given) (events now : List EventValue)
    → GiveAll t asked before gs events → GivesAt t asked (nearest gs before) g.packet now → GiveAll t asked before (gs ++ g ∷ []) (events ++ now)
give_all_push t asked before [] g events now e a =
    (now, [], ap (λ (l : List EventValue). l ++ now) e ∙ sym (append-nil now), a, refl)
give_all_push t asked before (h ∷ gs) g events now (first, later, e, at, rest) a = (
  first,
  later ++ now,
  ap (λ (l : List EventValue). l ++ now) e ∙ append_assoc first later now,
  at,
  give_all_push t asked (h.packet ∷ before) gs g later now rest a,
)

-- the advertisement goes on until its flush
pub advertisement_more : (p : Pkt) (before : List Pkt) → flushes before ≡ 0 → advertisement_of (p ∷ before) ≡ p ∷ advertisement_of before
advertisement_more p before none =
    ap (λ (n : ℕ). cond (is_zero n) (p ∷ advertisement_of before) (advertisement_of before)) none

-- an item of a list stays in its place when more is appended
slice_get_more : {X : Type 0} (xs more : List X) (k : ℕ) → (slice_get xs k ≡ None) ⊎ (slice_get (xs ++ more) k ≡ slice_get xs k)
slice_get_more [] more k = inl refl
slice_get_more (x ∷ xs) more zero = inr refl
slice_get_more (x ∷ xs) more (suc k) = slice_get_more xs more k

part_after_same : (asked more : List Asked) (n : ℕ) → (part_after asked n ≡ None) ⊎ (part_after (asked ++ more) n ≡ part_after asked n)
part_after_same asked more zero = inr refl
part_after_same asked more (suc k) = elim (slice_get_more asked more k) [ inl none ↦ inl (ap answer_to none) | inr same ↦ inr (ap answer_to same) ]

part_chosen : (expected : Bool) (part more : Option Part) → (part ≡ None) ⊎ (more ≡ part)
    → (cond expected (Some closing) part ≡ None) ⊎ (cond expected (Some closing) more ≡ cond expected (Some closing) part)
part_chosen true part more h = inr refl
part_chosen false part more h = h

part_same : (t : Terms) (asked more : List Asked) (before : List Pkt)
    → (part_of t asked before ≡ None) ⊎ (part_of t (asked ++ more) before ≡ part_of t asked before)
part_same t asked more [] = inr refl
part_same t asked more (p ∷ before) =
    part_chosen (is_end_expected t.ending (p ∷ before)) (part_after asked (flushes (p ∷ before))) (part_after (asked ++ more) (flushes (p ∷ before)))
    (part_after_same asked more (flushes (p ∷ before)))

-- and its place
pub place_more : (t : Terms) (asked more : List Asked) (before : List Pkt) (place : Place) → place_after t asked before ≡ Some place
    → place_after t (asked ++ more) before ≡ Some place
place_more t asked more before place h = elim (part_same t asked more before) [
  | inl none ↦ let both = sym (ap (λ (o : Option Part). place_of t.format o (message_of before)) none) ∙ h in absurd (cc)
  | inr same ↦ ap (λ (o : Option Part). place_of t.format o (message_of before)) same ∙ h
]

pub gives_at_more : (t : Terms) (asked more : List Asked) (before : List Pkt) (p : Pkt) (events : List EventValue) → GivesAt t asked before p events
    → GivesAt t (asked ++ more) before p events
gives_at_more t asked more before p events h =
    record { place = h.place; is_place = place_more t asked more before h.place h.is_place; gives = h.gives }

pub gives_more : (t : Terms) (asked more : List Asked) (before : List Pkt) (gs : List Given) (events : List EventValue) → GiveAll t asked before gs events
    → GiveAll t (asked ++ more) before gs events
gives_more t asked more before [] events e = e
gives_more t asked more before (g ∷ gs) events (now, later, e, at, rest) =
    (now, later, e, gives_at_more t asked more before g.packet now at, gives_more t asked more (g.packet ∷ before) gs later rest)

pub turns-append : (events later : List EventValue) → turns_of (events ++ later) ≡ turns_of events + turns_of later
turns-append [] later = omega arith
turns-append (offered ∷ events) later = omega (arith, turns-append events later)
turns-append (ended ∷ events) later = omega (arith, turns-append events later)
turns-append (event ∷ events) later = turns-append events later

-- packets add one turn for each flush, except for a flush after which a response end is expected
turns_after : (t : Terms) (asked : List Asked) (before : List Pkt) (gs : List Given) (events : List EventValue) → GiveAll t asked before gs events
    → turns_of events + one_if (is_end_expected t.ending (nearest gs before)) + flushes before
    ≡ flushes (nearest gs before) + one_if (is_end_expected t.ending before)
turns_after t asked before [] events e = omega (arith, ap turns_of e)
turns_after t asked before (g ∷ gs) events (now, later, e, at, rest) =
    omega (
      arith,
      ap turns_of e,
      turns-append now later,
      (packet_adds t.format t.ending at.place before g.packet now (comes_after t asked before at.place at.is_place) at.gives).turn,
      turns_after t asked (g.packet ∷ before) gs later rest,
    )

-- the client could ask once for each flush so far, except for a flush after which a response end is expected
pub turns_are_messages : (t : Terms) (asked : List Asked) (clean : List Given) (events : List EventValue) → GiveAll t asked [] clean events
    → turns_of events + one_if (is_end_expected t.ending (nearest clean [])) ≡ flushes (nearest clean [])
turns_are_messages t asked clean events h =
    omega (arith, turns_after t asked [] clean events h, ap one_if (nothing_expected t.ending))

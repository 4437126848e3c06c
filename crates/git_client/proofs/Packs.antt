-- The pack bytes that are handed out are the pack in the bytes received.
use Rattle.std.proofs.Common.{◌≡◌, ℕ, List, [], ◌∷◌, ◌++◌, Option, inl, inr, refl, sym, ap, ◌∙◌, subst, append-nil}
use Rattle.git_pkt.specs.Packets.{Pkt}
use Rattle.git_pkt.specs.Splits.{Given, Splits}
use Rattle.git_msg.specs.Asked.{Asked}
use Rattle.git_client.specs.Parts.{Terms, nearest}
use Rattle.git_client.specs.Places.{Place, place_after}
use Rattle.git_client.specs.Events.{EventValue, pack}
use Rattle.git_client.specs.Events.{pack_bytes}
use Rattle.git_client.specs.Opened.{IsOfRest, opened_in, unless_refused}
use Rattle.git_client.specs.Conversation.{GiveAll, Sounds, HasEvents, IsConversation}
use Rattle.git_client.specs.Packs.{pack_in, pack_of, open_pack_in, HasPack}
use Rattle.git_client.proofs.PlacePackets.{comes_after, packet_adds}
use Rattle.git_client.proofs.Determined.{moved_rest, one_opened, same_sounds}
use Rattle.git_client.proofs.EventsReceived.{later_questions}
use Rattle.git_client.proofs.Opened.{pack_opened}

pub pack_bytes-append : (events later : List EventValue) → pack_bytes (events ++ later) ≡ pack_bytes events ++ pack_bytes later
pack_bytes-append [] later = refl
pack_bytes-append (pack byte ∷ events) later = ap (λ (l : List ℕ). byte ∷ l) (pack_bytes-append events later)
pack_bytes-append (event ∷ events) later = pack_bytes-append events later

-- packets give the pack bytes that they contain
pub packs_all : (t : Terms) (asked : List Asked) (before : List Pkt) (gs : List Given) (events : List EventValue) → GiveAll t asked before gs events
    → pack_bytes events ≡ pack_of t asked before gs
packs_all t asked before [] events e = ap pack_bytes e
packs_all t asked before (g ∷ gs) events (now, later, e, at, rest) =
    let here : pack_bytes now ≡ pack_in (place_after t asked before) g.packet =
    (packet_adds t.format t.ending at.place before g.packet now (comes_after t asked before at.place at.is_place) at.gives).bytes
    ∙ ap (λ (o : Option Place). pack_in o g.packet) (sym at.is_place) in
    ap pack_bytes e
    ∙ pack_bytes-append now later
    ∙ ap (λ (l : List ℕ). l ++ pack_bytes later) here
    ∙ ap (λ (l : List ℕ). pack_in (place_after t asked before) g.packet ++ l) (packs_all t asked (g.packet ∷ before) gs later rest)

module _ (t : Terms) (asked : List Asked) (bytes : List ℕ) where
  abbrev sound_pack : (all : List ℕ) → (h : HasPack t asked bytes all) → Sounds t asked bytes h.clean h.events
  sound_pack all h =
      record { given = h.clean ++ h.more; rest = h.rest; more = h.more; splits = h.splits; cut = refl; gives = h.gives; stops = h.stops }

  -- the pack is what the whole packets give and what the open one has so far
  pack_is : (all : List ℕ) (clean : List Given) (events : List EventValue) (h : HasPack t asked bytes all) → Sounds t asked bytes clean events
      → all ≡ pack_bytes events ++ h.opened
  pack_is all clean events h s =
      let same = same_sounds t asked bytes h.clean clean h.events events (sound_pack all h) s in
      h.pack_is
      ∙ ap (λ (l : List ℕ). l ++ h.opened) (sym (packs_all t asked [] h.clean h.events h.gives))
      ∙ ap (λ (l : List EventValue). pack_bytes l ++ h.opened) same.events_are

  -- the open packet's part of the pack does not depend on how the bytes were cut into packets
  of_rest : (all : List ℕ) (clean : List Given) (events : List EventValue) (h : HasPack t asked bytes all) (s : Sounds t asked bytes clean events)
      → IsOfRest s.rest (unless_refused s.more (open_pack_in (place_after t asked (nearest clean [])) s.rest)) h.opened
  of_rest all clean events h s = moved_rest t asked bytes h.clean clean h.events events (sound_pack all h) s open_pack_in h.opened h.of_rest

pub one_pack : (t : Terms) (asked : List Asked) (bytes all other : List ℕ) → HasPack t asked bytes all → HasPack t asked bytes other → all ≡ other
one_pack t asked bytes all other h k =
    let sound = sound_pack t asked bytes other k in
    let opened = one_opened k.rest (unless_refused k.more (open_pack_in (place_after t asked (nearest k.clean [])) k.rest)) h.opened k.opened
    (of_rest t asked bytes all k.clean k.events h sound) k.of_rest in
    pack_is t asked bytes all k.clean k.events h sound
    ∙ ap (λ (l : List ℕ). pack_bytes k.events ++ l) opened
    ∙ sym (pack_is t asked bytes other k.clean k.events k sound)

-- the pack bytes of the open packet's events are its part of the pack
pack_unless : (more : List Given) (place : Option Place) (rest : List ℕ)
    → pack_bytes (unless_refused more (opened_in place rest)) ≡ unless_refused more (open_pack_in place rest)
pack_unless [] place rest = pack_opened place rest
pack_unless (g ∷ more) place rest = refl

pack_of_rest : (rest : List ℕ) (part opened : List EventValue) → IsOfRest rest part opened → IsOfRest rest (pack_bytes part) (pack_bytes opened)
pack_of_rest rest part opened (inl x) = inl (x.0, ap pack_bytes x.1)
pack_of_rest rest part opened (inr x) = inr (x.0, ap pack_bytes x.1)

-- the pack bytes among the events are the pack
pub has_pack : (t : Terms) (asked : List Asked) (bytes : List ℕ) (events : List EventValue) → HasEvents t asked bytes events
    → HasPack t asked bytes (pack_bytes events)
has_pack t asked bytes events e =
    let s = e.sounds in
    let place = place_after t asked (nearest e.clean []) in
    record {
      clean = e.clean;
      more = s.more;
      rest = s.rest;
      events = e.whole;
      opened = pack_bytes e.opened;
      splits = subst (λ (gs : List Given). Splits 0 bytes gs s.rest) s.cut s.splits;
      gives = s.gives;
      stops = s.stops;
      of_rest = subst (λ (part : List ℕ). IsOfRest s.rest part (pack_bytes e.opened)) (pack_unless s.more place s.rest)
          (pack_of_rest s.rest (unless_refused s.more (opened_in place s.rest)) e.opened e.of_rest);
      pack_is = ap pack_bytes e.events_are ∙ pack_bytes-append e.whole e.opened
          ∙ ap (λ (l : List ℕ). l ++ pack_bytes e.opened) (packs_all t asked [] e.clean e.whole s.gives);
    }

pub whole_pack : (t : Terms) (asked : List Asked) (bytes : List ℕ) (events : List EventValue) → IsConversation t asked bytes events
    → HasPack t asked bytes (pack_bytes events)
whole_pack t asked bytes events c =
    has_pack t asked bytes events
    (subst (λ (l : List Asked). HasEvents t l bytes events) (append-nil asked) (later_questions t asked [] bytes events c))

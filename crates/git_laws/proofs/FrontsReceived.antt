-- What a client hands out for the first bytes that a server sends.
use Rattle.std.proofs.Common.{arith, ◌≡◌, ◌⊎◌, inl, inr, ℕ, zero, suc, ◌+◌, ◌-◌, ◌≤◌, ◌==◌, Bool, true, false, cond, List, [], ◌∷◌, ◌++◌, codes}
use Rattle.std.proofs.Common.{Option, Some, None, Ok, Err, refl, ap, sym, ◌∙◌, subst, append_assoc, length, length-append, take, drop, map}
use Rattle.std.proofs.Common.{take-append-drop}
use Rattle.std.proofs.lemmas.List.{map-append, nil_from_length, take-append-le, take_all, take_at}
use Rattle.git_names.specs.declared.object_format.Format.{Format}
use Rattle.git_pkt.specs.Packets.{Pkt, flush, delim, resp_end, payload, body_of, spelling_of, text_of}
use Rattle.git_pkt.specs.Passed.{bytes_on, passed_in}
use Rattle.git_pkt.specs.Splits.{Given, NoneBegins, SpellsAll}
use Rattle.git_pkt.specs.declared.band.Band.TheVariants.{Pack, Progress}
use Rattle.git_pkt.specs.declared.fault.Fault.{Fault}
use Rattle.git_pkt.specs.declared.fault.Kind.TheVariants.{RemoteFatal, BadBand}
use Rattle.git_pkt.specs.FaultNames.{fault_text}
use Rattle.git_pkt.specs.Faults.{IsOpen}
use Rattle.git_pkt.proofs.Gathered.{open_nothing}
use Rattle.git_pkt.proofs.Spelling.{HasDigits-append, allowed_field, digits_value-append, same_start, spelled_length}
use Rattle.git_pkt.proofs.Texts.{text_of-line_end}
use Rattle.git_pkt.proofs.Written.{spells_written}
use Rattle.git_msg.specs.Asked.{Asked}
use Rattle.git_client.specs.Conversation.{GiveAll, GivesAt}
use Rattle.git_client.specs.Events.{EventValue, Gives, events_of_band, pack, progress}
use Rattle.git_client.specs.Machine.Client.{spelled}
use Rattle.git_client.specs.Opened.{events_on, opened_in}
use Rattle.git_client.specs.Parts.{Terms, nearest}
use Rattle.git_client.specs.Places.{Place, packfile, response_end, place_after}
use Rattle.git_client.specs.declared.events.Ending.{Ending}
use Rattle.git_client.proofs.Determined.{one_gift}
use Rattle.git_client.proofs.Opened.{nothing_opened, on_pack, on_progress}
use Rattle.git_server.specs.Answers.{AllFit, error_packet}
use Rattle.git_laws.specs.AnnouncedAnswers.{packets_of}

-- ---- bytes that begin spelled packets

-- their packets are the first of these, and the bytes after them begin the next one
pub record IsFront (gs : List Given) (rest more : List ℕ) (ps : List Pkt) : Type 0 where
  pub later : List Pkt
  pub are : ps ≡ packets_of gs ++ later
  pub onward : rest ++ more ≡ spelled later
  pub fit : AllFit later

pub front_of : (offset : ℕ) (bytes more : List ℕ) (gs : List Given) (rest : List ℕ) (ps : List Pkt) → AllFit ps → SpellsAll offset bytes gs rest
    → bytes ++ more ≡ spelled ps → IsFront gs rest more ps
front_of offset bytes more [] rest ps fit e same =
    record { later = ps; are = refl; onward = subst (λ (l : List ℕ). l ++ more ≡ spelled ps) e same; fit = fit }
front_of offset bytes more (g ∷ gs) rest [] fit (s, others, parts, at, is, tail) same =
    absurd (omega (arith, spelled_length g.packet s is, ap length same, length-append bytes more, ap length parts, length-append s others))
front_of offset bytes more (g ∷ gs) rest (p ∷ ps) (now, fit) (s, others, parts, at, is, tail) same =
    let start = same_start g.packet p s (spelling_of p) (others ++ more) (spelled ps) is (spells_written p now)
    (sym (append_assoc s others more) ∙ ap (λ (l : List ℕ). l ++ more) (sym parts) ∙ same) in
    let then = front_of (offset + length s) others more gs rest ps fit tail start.rest in
    record {
      later = then.later;
      are = ap (λ (q : Pkt). q ∷ ps) (sym start.packet) ∙ ap (λ (l : List Pkt). g.packet ∷ l) then.are;
      onward = then.onward;
      fit = then.fit;
    }

-- bytes that begin spelled packets are an open packet, or there are none
pub spelled_open : (ps : List Pkt) → AllFit ps → IsOpen (spelled ps)
spelled_open [] fit = open_nothing
spelled_open (p ∷ ps) (now, fit) =
    let s = spelling_of p in
    let spells = spells_written p now in
    let digits = HasDigits-append s (spelled ps) spells.digits in
    let same = digits_value-append s (spelled ps) (omega (arith, spelled_length p s spells)) in
    record {
      digits = λ k few there. digits.digits k few;
      allowed = λ long. rw same (allowed_field p s spells);
    }

-- ---- the bytes so far of an open packet

-- one of two lists is no longer than the other
shorter : (a b : List ℕ) → (length a ≤ length b) ⊎ (length b ≤ length a)
shorter [] b = inl (omega arith)
shorter (x ∷ a) [] = inr (omega arith)
shorter (x ∷ a) (y ∷ b) = elim (shorter a b) [ inl few ↦ inl (omega (arith, few)) | inr many ↦ inr (omega (arith, many)) ]

drop_of_take : (n m : ℕ) (xs : List ℕ) → drop n (take m xs) ≡ take (m - n) (drop n xs)
drop_of_take zero m xs = let all : m - 0 ≡ m = omega arith in ap (λ (k : ℕ). take k xs) (sym all)
drop_of_take (suc n) zero xs = let none : 0 - suc n ≡ 0 = omega arith in ap (λ (k : ℕ). take k (drop (suc n) xs)) (sym none)
drop_of_take (suc n) (suc m) [] = sym (take_all (suc m - suc n) [] (omega arith))
drop_of_take (suc n) (suc m) (x ∷ xs) =
    let on : suc m - suc n ≡ m - n = omega arith in drop_of_take n m xs ∙ ap (λ (k : ℕ). take k (drop n xs)) (sym on)

-- the bytes of an open packet after its digits begin the contents of the whole packet
open_body : (rest more : List ℕ) (p : Pkt) (ps : List Pkt) → AllFit (p ∷ ps) → NoneBegins rest → rest ++ more ≡ spelled (p ∷ ps)
    → drop 4 rest ≡ take (length rest - 4) (body_of p)
open_body rest more p ps (now, fit) none same =
    let spells = spells_written p now in
    let s = spelling_of p in
    elim (shorter rest s) [
      | inl few ↦
          let front : rest ≡ take (length rest) s =
          sym (take_at rest more (length rest) refl) ∙ ap (take (length rest)) same ∙ take-append-le (length rest) s (spelled ps) few in
          ap (drop 4) front ∙ drop_of_take 4 (length rest) s ∙ ap (take (length rest - 4)) spells.body
      | inr many ↦
          let front : s ≡ take (length s) rest =
          sym (take_at s (spelled ps) (length s) refl) ∙ ap (take (length s)) (sym same) ∙ take-append-le (length s) rest more many in
          absurd (none p s (drop (length s) rest)
          (sym (take-append-drop (length s) rest) ∙ ap (λ (l : List ℕ). l ++ drop (length s) rest) (sym front)) spells)
    ]

-- the first bytes of a payload on a band give its first events
first_bytes : (first second third : Bool) (bytes : List ℕ) (k : ℕ) (now : List EventValue)
    → cond first (Ok (map pack bytes)) (cond second (Ok (map progress bytes)) (cond third (Err RemoteFatal) (Err BadBand))) ≡ Ok now
    → (later : List EventValue)
    × (now ≡ events_on (bytes_on (cond first (Some Pack) (cond second (Some Progress) None)) (take k bytes)) ++ later)
first_bytes true second third bytes k now e = (
  map pack (drop k bytes),
  let is : now ≡ map pack bytes = cc in
      is ∙ ap (map pack) (sym (take-append-drop k bytes)) ∙ map-append pack (take k bytes) (drop k bytes)
      ∙ ap (λ (l : List EventValue). l ++ map pack (drop k bytes)) (sym (on_pack (take k bytes))),
)
first_bytes false true third bytes k now e = (
  map progress (drop k bytes),
  let is : now ≡ map progress bytes = cc in
      is ∙ ap (map progress) (sym (take-append-drop k bytes)) ∙ map-append progress (take k bytes) (drop k bytes)
      ∙ ap (λ (l : List EventValue). l ++ map progress (drop k bytes)) (sym (on_progress (take k bytes))),
)
first_bytes false false true bytes k now e = absurd (cc)
first_bytes false false false bytes k now e = absurd (cc)

first_passed : (bytes : List ℕ) (k : ℕ) (now : List EventValue) → events_of_band bytes ≡ Ok now
    → (later : List EventValue) × (now ≡ events_on (passed_in (take k bytes)) ++ later)
first_passed [] k now e = absurd (cc)
first_passed (byte ∷ bytes) zero now e = (now, refl)
first_passed (byte ∷ bytes) (suc k) now e = first_bytes (byte == 1) (byte == 2) (byte == 3) bytes k now e

none_of_nothing : (k : ℕ) → events_on (passed_in (take k [])) ≡ []
none_of_nothing zero = refl
none_of_nothing (suc k) = refl

opened_front : (format : Format) (ending : Ending) (place : Place) (p : Pkt) (rest : List ℕ) (k : ℕ) (now : List EventValue) → drop 4 rest ≡ take k (body_of p)
    → Gives format ending place p now → (later : List EventValue) × (now ≡ opened_in (Some place) rest ++ later)
opened_front format ending packfile (payload bytes) rest k now e gives =
    let (later, is) = first_passed bytes k now gives in
    (later, is ∙ ap (λ (l : List ℕ). events_on (passed_in l) ++ later) (sym e))
opened_front format ending packfile flush rest k now e gives =
    (now, ap (λ (l : List EventValue). l ++ now) (sym (ap (λ (l : List ℕ). events_on (passed_in l)) e ∙ none_of_nothing k)))
opened_front format ending packfile delim rest k now e gives =
    (now, ap (λ (l : List EventValue). l ++ now) (sym (ap (λ (l : List ℕ). events_on (passed_in l)) e ∙ none_of_nothing k)))
opened_front format ending packfile resp_end rest k now e gives =
    (now, ap (λ (l : List EventValue). l ++ now) (sym (ap (λ (l : List ℕ). events_on (passed_in l)) e ∙ none_of_nothing k)))
opened_front format ending place p rest k now e gives = (now, refl)

-- ---- the packet with which a server reports an error

-- it gives events at no place
error_refused : (format : Format) (ending : Ending) (place : Place) (fault : Fault) (now : List EventValue)
    → Gives format ending place (error_packet fault) now → ⊥
error_refused format ending packfile fault now gives = cc
error_refused format ending response_end fault now gives = gives
error_refused format ending place fault now gives =
    let text : text_of (body_of (error_packet fault)) ≡ codes "ERR " ++ fault_text fault = text_of-line_end (codes "ERR " ++ fault_text fault) in
    gives.no_error (record { message = fault_text fault; spelled = text })

-- and no part of it is handed out
none_on_band : (k : ℕ) (bytes : List ℕ) → events_on (passed_in (take k (69 ∷ bytes))) ≡ []
none_on_band zero bytes = refl
none_on_band (suc k) bytes = refl

error_hidden : (place : Option Place) (fault : Fault) (rest : List ℕ) (k : ℕ) → drop 4 rest ≡ take k (body_of (error_packet fault)) → opened_in place rest ≡ []
error_hidden (Some packfile) fault rest k e = ap (λ (l : List ℕ). events_on (passed_in l)) e ∙ none_on_band k _
error_hidden place fault rest k e = refl

-- what ends a session early: nothing, or the packet of an error
abbrev pub IsReport : List Pkt → Type 0
IsReport bad = (bad ≡ []) ⊎ ((fault : Fault) × (bad ≡ error_packet fault ∷ []))

-- ---- the events

module _ (t : Terms) (asked : List Asked) where
  report_given : (bad : List Pkt) (before : List Pkt) (p : Pkt) (ps : List Pkt) (now : List EventValue) → IsReport bad → bad ≡ p ∷ ps
      → GivesAt t asked before p now → ⊥
  report_given bad before p ps now (inl none) e gives = cc
  report_given bad before p ps now (inr (fault, is)) e gives =
      let same : p ≡ error_packet fault = cc in
      error_refused t.format t.ending gives.place fault now (subst (λ (q : Pkt). Gives t.format t.ending gives.place q now) same gives.gives)

  -- packets that are not refused come before such a report
  pub before_report : (before : List Pkt) (clean : List Given) (events : List EventValue) (good bad later : List Pkt) → GiveAll t asked before clean events
      → IsReport bad → packets_of clean ++ later ≡ good ++ bad → (behind : List Pkt) × (good ≡ packets_of clean ++ behind) × (later ≡ behind ++ bad)
  before_report before [] events good bad later gives report e = (good, refl, e)
  before_report before (g ∷ gs) events [] bad later gives report e =
      absurd (report_given bad before g.packet (packets_of gs ++ later) gives.0 report (sym e) gives.3)
  before_report before (g ∷ gs) events (p ∷ good) bad later gives report e =
      let same : g.packet ≡ p = cc in
      let rest : packets_of gs ++ later ≡ good ++ bad = cc in
      let (behind, is, after) = before_report (g.packet ∷ before) gs gives.1 good bad later gives.4 report rest in
      (behind, ap (λ (q : Pkt). q ∷ good) (sym same) ∙ ap (λ (l : List Pkt). g.packet ∷ l) is, after)

  -- the events so far of the open packet are the first of the remaining events
  opened_first : (before : List Pkt) (gs : List Given) (events : List EventValue) (behind unsent bad : List Pkt) (rest more : List ℕ)
      → GiveAll t asked before gs events → packets_of gs ≡ behind ++ unsent → IsReport bad → rest ++ more ≡ spelled (behind ++ bad)
      → AllFit (behind ++ bad) → NoneBegins rest
      → (later : List EventValue) × (events ≡ opened_in (place_after t asked before) rest ++ later)
  opened_first before gs events [] unsent bad rest more gives are (inl nothing) same fit none =
      let short : length rest ≡ 0 = omega (arith, ap length same, ap (λ (l : List Pkt). length (spelled l)) nothing, length-append rest more) in (
        events,
        ap (λ (l : List EventValue). l ++ events)
            (sym (ap (opened_in (place_after t asked before)) (nil_from_length rest short) ∙ nothing_opened (place_after t asked before))),
      )
  opened_first before gs events [] unsent bad rest more gives are (inr (fault, is)) same fit none =
      let hidden = error_hidden (place_after t asked before) fault rest _ (open_body rest more (error_packet fault) [] (subst AllFit is fit) none
      (same ∙ ap spelled is)) in
      (events, ap (λ (l : List EventValue). l ++ events) (sym hidden))
  opened_first before [] events (p ∷ behind) unsent bad rest more gives are report same fit none = absurd (cc)
  opened_first before (g ∷ gs) events (p ∷ behind) unsent bad rest more gives are report same fit none =
      let one : g.packet ≡ p = cc in
      let at : GivesAt t asked before g.packet gives.0 = gives.3 in
      let body : drop 4 rest ≡ take (length rest - 4) (body_of g.packet) =
      open_body rest more p (behind ++ bad) fit none same ∙ ap (λ (q : Pkt). take (length rest - 4) (body_of q)) (sym one) in
      let (later, is) = opened_front t.format t.ending at.place g.packet rest (length rest - 4) gives.0 body at.gives in (
        later ++ gives.1,
        gives.2 ∙ ap (λ (l : List EventValue). l ++ gives.1) is ∙ append_assoc (opened_in (Some at.place) rest) later gives.1
            ∙ ap (λ (o : Option Place). opened_in o rest ++ (later ++ gives.1)) (sym at.is_place),
      )

  -- the events of the first packets and of an open one are the first of all events
  pub first_events : (before : List Pkt) (clean gs : List Given) (arrived events : List EventValue) (behind unsent bad : List Pkt) (rest more : List ℕ)
      → GiveAll t asked before clean arrived → GiveAll t asked before gs events → packets_of gs ≡ packets_of clean ++ (behind ++ unsent) → IsReport bad
      → rest ++ more ≡ spelled (behind ++ bad) → AllFit (behind ++ bad) → NoneBegins rest
      → (later : List EventValue) × (events ≡ (arrived ++ opened_in (place_after t asked (nearest clean before)) rest) ++ later)
  first_events before [] gs arrived events behind unsent bad rest more none_received gives are report same fit none =
      let (later, is) = opened_first before gs events behind unsent bad rest more gives are report same fit none in
      (later, is ∙ ap (λ (l : List EventValue). (l ++ opened_in (place_after t asked before) rest) ++ later) (sym none_received))
  first_events before (c ∷ clean) [] arrived events behind unsent bad rest more arrives gives are report same fit none = absurd (cc)
  first_events before (c ∷ clean) (g ∷ gs) arrived events behind unsent bad rest more arrives gives are report same fit none =
      let one : g.packet ≡ c.packet = cc in
      let others : packets_of gs ≡ packets_of clean ++ (behind ++ unsent) = cc in
      let at : GivesAt t asked before c.packet gives.0 = subst (λ (p : Pkt). GivesAt t asked before p gives.0) one gives.3 in
      let now : gives.0 ≡ arrives.0 = one_gift t asked before c.packet gives.0 arrives.0 at arrives.3 in
      let moved : GiveAll t asked (c.packet ∷ before) gs gives.1 = subst (λ (p : Pkt). GiveAll t asked (p ∷ before) gs gives.1) one gives.4 in
      let (later, is) = first_events (c.packet ∷ before) clean gs arrives.1 gives.1 behind unsent bad rest more arrives.4 moved others report same fit none in
      let opened = opened_in (place_after t asked (nearest clean (c.packet ∷ before))) rest in (
        later,
        gives.2 ∙ ap (λ (l : List EventValue). l ++ gives.1) now ∙ ap (λ (l : List EventValue). arrives.0 ++ l) is
            ∙ sym (append_assoc arrives.0 (arrives.1 ++ opened) later)
            ∙ ap (λ (l : List EventValue). l ++ later) (sym (append_assoc arrives.0 arrives.1 opened))
            ∙ ap (λ (l : List EventValue). (l ++ opened) ++ later) (sym arrives.2),
      )

  -- each packet in a list with events has its own events, after the packets before it
  pub given_at : (before : List Pkt) (clean gs : List Given) (p : Pkt) (events : List EventValue) (rest : List Pkt) → GiveAll t asked before gs events
      → packets_of gs ≡ packets_of clean ++ (p ∷ rest) → (now : List EventValue) × GivesAt t asked (nearest clean before) p now
  given_at before clean [] p events rest gives are = absurd (none_of clean are) where
    none_of : (clean : List Given) → [] ≡ packets_of clean ++ (p ∷ rest) → ⊥
    none_of [] e = cc
    none_of (g ∷ gs) e = cc
  given_at before [] (g ∷ gs) p events rest gives are =
      let one : g.packet ≡ p = cc in
      (gives.0, subst (λ (q : Pkt). GivesAt t asked before q gives.0) one gives.3)
  given_at before (c ∷ clean) (g ∷ gs) p events rest gives are =
      let one : g.packet ≡ c.packet = cc in
      let others : packets_of gs ≡ packets_of clean ++ (p ∷ rest) = cc in
      given_at (c.packet ∷ before) clean gs p gives.1 rest (subst (λ (q : Pkt). GiveAll t asked (q ∷ before) gs gives.1) one gives.4) others

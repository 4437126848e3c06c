-- Turns by requests that have nothing which is not known: all of their bytes are received, and their lines are those of a client's transcript.
use Rattle.std.proofs.Common.{◌≡◌, ℕ, true, List, [], ◌∷◌, ◌++◌, drop, map, refl, sym, ap, ◌∙◌, subst, append_assoc, append-nil}
use Rattle.std.proofs.lemmas.List.Elements.{All-head, All-tail}
use Rattle.git_msg.specs.Asked.{Asked, command_asked}
use Rattle.git_client.specs.Events.{EventValue}
use Rattle.git_client.specs.Parts.{Terms}
use Rattle.git_client.specs.Machine.RunSteps.{IsOneTurn}
use Rattle.git_client.specs.Transcript.{asked_line, next_asked, transcript_from, transcript_of}
use Rattle.git_client.proofs.OneTurn.{turn_adds}
use Rattle.git2show_lib.specs.OtherLines.{Question}
use Rattle.git2show_lib.specs.Machine.CheckedStreams.{AllEnded, ComeInTurn, Comes, HasEnded, MayCome, Turn, asked_in, bytes_in, events_in, events_shown}
use Rattle.git2show_lib.specs.Machine.CheckedStreams.{known_of, question_shown, questions_in, received_in, turn_shown, turns_shown}
use Rattle.git2show_lib.proofs.KnownLines.{plain}
use Rattle.git2show_lib.proofs.Turns.{asked_snoc, events_snoc, shown_snoc}

-- ---- bytes

received_once : (t : Terms) (q : Asked) (turn : Turn) → turn.question ≡ plain q → Comes t turn.question turn.bytes turn.received turn.events
    → turn.bytes ≡ turn.received
received_once t q turn is comes =
    let (same, one) = subst (λ (question : Question). Comes t question turn.bytes turn.received turn.events) is comes in sym same

pub all_received : (t : Terms) (opening : List ℕ) (greeting : List EventValue) (earlier turns : List Turn) (qs : List Asked)
    → ComeInTurn t opening greeting earlier turns → questions_in turns ≡ map plain qs → bytes_in turns ≡ received_in turns
all_received t opening greeting earlier [] qs come same = refl
all_received t opening greeting earlier (turn ∷ turns) [] come same = absurd (cc)
all_received t opening greeting earlier (turn ∷ turns) (q ∷ qs) (first, come) same =
    let is : turn.question ≡ plain q = cc in
    let later : questions_in turns ≡ map plain qs = cc in
    ap (λ (l : List ℕ). l ++ bytes_in turns) (received_once t q turn is first.comes)
    ∙ ap (λ (l : List ℕ). turn.received ++ l) (all_received t opening greeting (earlier ++ turn ∷ []) turns qs come later)

-- ---- lines

-- what a transcript has from the line of the next request on
abbrev lines_from : List Asked → List EventValue → List ℕ
lines_from asked events = next_asked asked ++ transcript_from (drop 1 asked) 0 0 events

-- a whole response, and what comes after it
turn_then : (q : Asked) (events : List EventValue) (asked : List Asked) (more : List EventValue) → IsOneTurn events true
    → lines_from (q ∷ asked) (events ++ more) ≡ (asked_line (command_asked q) ++ events_shown events) ++ lines_from asked more
turn_then q events asked more one =
    ap (λ (l : List ℕ). asked_line (command_asked q) ++ l)
    (turn_adds true events one asked 0 0 more ∙ append_assoc (events_shown events) (next_asked asked) (transcript_from (drop 1 asked) 0 0 more))
    ∙ sym (append_assoc (asked_line (command_asked q)) (events_shown events) (lines_from asked more))

-- the lines of a turn by such a request
plain_shown : (q : Asked) (turn : Turn) → turn.question ≡ plain q → turn_shown turn ≡ asked_line (command_asked q) ++ events_shown turn.events
plain_shown q turn is =
    ap (λ (question : Question). question_shown question ++ events_shown turn.events) is
    ∙ ap (λ (l : List ℕ). l ++ events_shown turn.events) (append-nil (asked_line (command_asked q)))

turns_then : (t : Terms) (turns : List Turn) (qs : List Asked) → questions_in turns ≡ map plain qs → AllEnded t turns
    → (later : List Asked) (more : List EventValue)
    → lines_from (asked_in turns ++ later) (events_in turns ++ more) ≡ turns_shown turns ++ lines_from later more
turns_then t [] qs same ended later more = refl
turns_then t (turn ∷ turns) [] same ended later more = absurd (cc)
turns_then t (turn ∷ turns) (q ∷ qs) same ended later more =
    let is : turn.question ≡ plain q = cc in
    let rest : questions_in turns ≡ map plain qs = cc in
    let P : Turn → Type 0 = λ x. HasEnded t x.question x.bytes x.received x.events in
    let (all, one) =
    subst (λ (question : Question). HasEnded t question turn.bytes turn.received turn.events) is (All-head P turn turns ended) in
    let asked = asked_in turns ++ later in
    let events = events_in turns ++ more in
    ap (λ (question : Question). lines_from ((known_of question ++ asked_in turns) ++ later) ((turn.events ++ events_in turns) ++ more)) is
    ∙ ap (λ (e : List EventValue). lines_from (q ∷ asked) e) (append_assoc turn.events (events_in turns) more)
    ∙ turn_then q turn.events asked events one
    ∙ ap (λ (l : List ℕ). l ++ lines_from asked events) (sym (plain_shown q turn is))
    ∙ ap (λ (l : List ℕ). turn_shown turn ++ l) (turns_then t turns qs rest (All-tail P turn turns ended) later more)
    ∙ sym (append_assoc (turn_shown turn) (turns_shown turns) (lines_from later more))

-- the last of turns came after all before it
record EndsIn (t : Terms) (opening : List ℕ) (greeting : List EventValue) (turns : List Turn) : Type 0 where
  before : List Turn
  last : Turn
  parts : turns ≡ before ++ last ∷ []
  may : MayCome t opening greeting before last

ends_in : (t : Terms) (opening : List ℕ) (greeting : List EventValue) (earlier : List Turn) (turn : Turn) (turns : List Turn)
    → ComeInTurn t opening greeting earlier (turn ∷ turns) → EndsIn t opening greeting (earlier ++ turn ∷ turns)
ends_in t opening greeting earlier turn [] (first, come) = record { before = earlier; last = turn; parts = refl; may = first }
ends_in t opening greeting earlier turn (next ∷ turns) (first, come) =
    subst (EndsIn t opening greeting) (append_assoc earlier (turn ∷ []) (next ∷ turns))
    (ends_in t opening greeting (earlier ++ turn ∷ []) next turns come)

-- all but the last of such requests, and the last
last_plain : (turns : List Turn) (turn : Turn) (qs : List Asked) → questions_in (turns ++ turn ∷ []) ≡ map plain qs
    → ((earlier : List Asked) × (questions_in turns ≡ map plain earlier)) × ((q : Asked) × (turn.question ≡ plain q))
last_plain [] turn [] same = absurd (cc)
last_plain [] turn (q ∷ qs) same = (([], refl), (q, cc))
last_plain (x ∷ turns) turn [] same = absurd (cc)
last_plain (x ∷ turns) turn (q ∷ qs) same =
    let is : x.question ≡ plain q = cc in
    let later : questions_in (turns ++ turn ∷ []) ≡ map plain qs = cc in
    let ((earlier, are), last) = last_plain turns turn qs later in
    ((q ∷ earlier, ap (λ (o : Question). o ∷ questions_in turns) is ∙ ap (λ (l : List Question). plain q ∷ l) are), last)

module _ (t : Terms) (opening : List ℕ) (greeting : List EventValue) where
  -- the lines of the advertisement and of some turns are a client's transcript
  turns_announced : (turns : List Turn) (e : EndsIn t opening greeting turns) (qs : List Asked) → questions_in turns ≡ map plain qs
      → transcript_of (asked_in turns) (greeting ++ events_in turns) ≡ events_shown greeting ++ turns_shown turns
  turns_announced turns e qs same =
      let ((earlier, before), (q, is)) = last_plain e.before e.last qs (subst (λ (l : List Turn). questions_in l ≡ map plain qs) e.parts same) in
      let asked : asked_in turns ≡ asked_in e.before ++ q ∷ [] =
      ap asked_in e.parts ∙ asked_snoc e.before e.last ∙ ap (λ (question : Question). asked_in e.before ++ known_of question) is in
      let events : events_in turns ≡ events_in e.before ++ e.last.events = ap events_in e.parts ∙ events_snoc e.before e.last in
      ap (λ (qs : List Asked). transcript_of qs (greeting ++ events_in turns)) asked
      ∙ ap (λ (es : List EventValue). transcript_of (asked_in e.before ++ q ∷ []) (greeting ++ es)) events
      ∙ turn_adds true greeting e.may.greeted (asked_in e.before ++ q ∷ []) 0 0 (events_in e.before ++ e.last.events)
      ∙ append_assoc (events_shown greeting) (next_asked (asked_in e.before ++ q ∷ []))
      (transcript_from (drop 1 (asked_in e.before ++ q ∷ [])) 0 0 (events_in e.before ++ e.last.events))
      ∙ ap (λ (l : List ℕ). events_shown greeting ++ l) (
      turns_then t e.before earlier before e.may.ended (q ∷ []) e.last.events
      ∙ ap (λ (l : List ℕ). turns_shown e.before ++ l) (sym (plain_shown q e.last is))
      ∙ sym (shown_snoc e.before e.last)
      ∙ ap turns_shown (sym e.parts)
      )

  pub all_announced : (turns : List Turn) (qs : List Asked) → ComeInTurn t opening greeting [] turns → questions_in turns ≡ map plain qs
      → transcript_of (asked_in turns) (greeting ++ events_in turns) ≡ events_shown greeting ++ turns_shown turns
  all_announced [] qs come same = ap (transcript_of []) (append-nil greeting) ∙ sym (append-nil (events_shown greeting))
  all_announced (turn ∷ turns) qs come same = turns_announced (turn ∷ turns) (ends_in t opening greeting [] turn turns come) qs same

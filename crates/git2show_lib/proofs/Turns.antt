-- What came for each request, one more at a time; its lines; and the offsets of faults in what passes between others.
use Rattle.std.proofs.Common.{arith, ◌≡◌, ℕ, ◌+◌, ◌-◌, min, List, [], ◌∷◌, ◌++◌, length, Option, None}
use Rattle.std.proofs.Common.{refl, sym, ap, ◌∙◌, subst, append_assoc, append-nil}
use Rattle.git_names.specs.declared.object_format.Format.{Format}
use Rattle.git_pkt.specs.declared.fault.Fault.{Fault}
use Rattle.git_msg.specs.Asked.{Asked}
use Rattle.git_client.specs.Events.{EventValue}
use Rattle.git_client.specs.Parts.{Terms}
use Rattle.git2show_lib.specs.OtherLines.{Question}
use Rattle.git2show_lib.specs.Machine.CheckedStreams.{AreReceived, ComeInTurn, Received, MayCome, Turn, asked_in, bytes_in, events_in, known_of, moved}
use Rattle.git2show_lib.specs.Machine.CheckedStreams.{Begun, events_shown, received_shown, lines_begun, passed_in, questions_in, received_in, turn_shown}
use Rattle.git2show_lib.specs.Machine.CheckedStreams.{form_of, last_form, turns_shown, whole_of}

-- ---- one more turn

pub asked_snoc : (turns : List Turn) (turn : Turn) → asked_in (turns ++ turn ∷ []) ≡ asked_in turns ++ known_of turn.question
asked_snoc [] turn = append-nil (known_of turn.question)
asked_snoc (x ∷ turns) turn =
    ap (λ (l : List Asked). known_of x.question ++ l) (asked_snoc turns turn)
    ∙ sym (append_assoc (known_of x.question) (asked_in turns) (known_of turn.question))

received_snoc : (turns : List Turn) (turn : Turn) → received_in (turns ++ turn ∷ []) ≡ received_in turns ++ turn.received
received_snoc [] turn = append-nil turn.received
received_snoc (x ∷ turns) turn =
    ap (λ (l : List ℕ). x.received ++ l) (received_snoc turns turn) ∙ sym (append_assoc x.received (received_in turns) turn.received)

pub events_snoc : (turns : List Turn) (turn : Turn) → events_in (turns ++ turn ∷ []) ≡ events_in turns ++ turn.events
events_snoc [] turn = append-nil turn.events
events_snoc (x ∷ turns) turn =
    ap (λ (l : List EventValue). x.events ++ l) (events_snoc turns turn) ∙ sym (append_assoc x.events (events_in turns) turn.events)

bytes_snoc : (turns : List Turn) (turn : Turn) → bytes_in (turns ++ turn ∷ []) ≡ bytes_in turns ++ turn.bytes
bytes_snoc [] turn = append-nil turn.bytes
bytes_snoc (x ∷ turns) turn =
    ap (λ (l : List ℕ). x.bytes ++ l) (bytes_snoc turns turn) ∙ sym (append_assoc x.bytes (bytes_in turns) turn.bytes)

pub passed_snoc : (turns : List Turn) (turn : Turn) → passed_in (turns ++ turn ∷ []) ≡ passed_in turns + (length turn.bytes - length turn.received)
passed_snoc [] turn = omega arith
passed_snoc (x ∷ turns) turn = omega (arith, passed_snoc turns turn)

pub questions_snoc : (turns : List Turn) (turn : Turn) → questions_in (turns ++ turn ∷ []) ≡ questions_in turns ++ turn.question ∷ []
questions_snoc [] turn = refl
questions_snoc (x ∷ turns) turn = ap (λ (l : List Question). x.question ∷ l) (questions_snoc turns turn)

-- the form in which the last response comes
pub form_snoc : (format : Format) (turns : List Turn) (turn : Turn) → last_form format (turns ++ turn ∷ []) ≡ form_of format turn.question
form_snoc format [] turn = refl
form_snoc format (x ∷ []) turn = refl
form_snoc format (x ∷ y ∷ turns) turn = form_snoc format (y ∷ turns) turn

pub shown_snoc : (turns : List Turn) (turn : Turn) → turns_shown (turns ++ turn ∷ []) ≡ turns_shown turns ++ turn_shown turn
shown_snoc [] turn = append-nil (turn_shown turn)
shown_snoc (x ∷ turns) turn =
    ap (λ (l : List ℕ). turn_shown x ++ l) (shown_snoc turns turn) ∙ sym (append_assoc (turn_shown x) (turns_shown turns) (turn_shown turn))

in_turn_snoc : (t : Terms) (opening : List ℕ) (greeting : List EventValue) (earlier turns : List Turn) (turn : Turn)
    → ComeInTurn t opening greeting earlier turns → MayCome t opening greeting (earlier ++ turns) turn
    → ComeInTurn t opening greeting earlier (turns ++ turn ∷ [])
in_turn_snoc t opening greeting earlier [] turn come may =
    (subst (λ (before : List Turn). MayCome t opening greeting before turn) (append-nil earlier) may, tt)
in_turn_snoc t opening greeting earlier (x ∷ turns) turn (first, come) may = (
  first,
  in_turn_snoc t opening greeting (earlier ++ x ∷ []) turns turn come
      (subst (λ (before : List Turn). MayCome t opening greeting before turn) (sym (append_assoc earlier (x ∷ []) turns)) may),
)

module _ (r : Received) (turn : Turn) where
  abbrev pub with_turn : Received
  with_turn = record { opening = r.opening; greeting = r.greeting; turns = r.turns ++ turn ∷ []; begun = None }

  -- all bytes with one turn more
  pub whole_with : whole_of with_turn ≡ whole_of r ++ turn.bytes
  whole_with =
      ap (λ (l : List ℕ). r.opening ++ l) (bytes_snoc r.turns turn) ∙ sym (append_assoc r.opening (bytes_in r.turns) turn.bytes)

  -- all lines with one turn more
  pub shown_with : r.begun ≡ None → received_shown with_turn ≡ received_shown r ++ turn_shown turn
  shown_with none =
      append-nil (events_shown r.greeting ++ turns_shown (r.turns ++ turn ∷ []))
      ∙ ap (λ (l : List ℕ). events_shown r.greeting ++ l) (shown_snoc r.turns turn)
      ∙ sym (append_assoc (events_shown r.greeting) (turns_shown r.turns) (turn_shown turn))
      ∙ ap (λ (l : List ℕ). l ++ turn_shown turn) (sym (append-nil (events_shown r.greeting ++ turns_shown r.turns)))
      ∙ ap (λ (b : Option Begun). ((events_shown r.greeting ++ turns_shown r.turns) ++ lines_begun b) ++ turn_shown turn) (sym none)

  -- what a client was asked and received, with one turn more
  pub received_with : {t : Terms} {asked : List Asked} {used : List ℕ} {events : List EventValue} → AreReceived t asked used events r
      → MayCome t r.opening r.greeting r.turns turn
      → AreReceived t (asked ++ known_of turn.question) (used ++ turn.received) (events ++ turn.events) with_turn
  received_with {t} {asked} {used} h may = record {
    asked_is = ap (λ (l : List Asked). l ++ known_of turn.question) h.asked_is ∙ sym (asked_snoc r.turns turn);
    used_is = ap (λ (l : List ℕ). l ++ turn.received) h.used_is ∙ append_assoc r.opening (received_in r.turns) turn.received
        ∙ ap (λ (l : List ℕ). r.opening ++ l) (sym (received_snoc r.turns turn));
    events_are = ap (λ (l : List EventValue). l ++ turn.events) h.events_are ∙ append_assoc r.greeting (events_in r.turns) turn.events
        ∙ ap (λ (l : List EventValue). r.greeting ++ l) (sym (events_snoc r.turns turn));
    one_turn = h.one_turn;
    in_turn = in_turn_snoc t r.opening r.greeting [] r.turns turn h.in_turn may;
  }

-- ---- offsets

-- a count that stops at the largest number counts on the same
pub stops_once : (a b most : ℕ) → min (a + min b most) most ≡ min (a + b) most
stops_once a b most = grind arith

pub moved_by_count : (count before : ℕ) (fault : Fault) → count ≡ min before 18446744073709551615 → moved count fault ≡ moved before fault
moved_by_count count before fault is =
    ap (λ (n : ℕ). record { kind = fault.kind; offset = n })
    (ap (λ (n : ℕ). min (fault.offset + n) 18446744073709551615) is ∙ stops_once fault.offset before 18446744073709551615)

-- The events of one response, and what they add to a transcript.
use Rattle.std.proofs.Common.{arith, ◌≡◌, ℕ, suc, ◌+◌, Bool, true, false, List, [], ◌∷◌, ◌++◌, length, map, drop, refl, sym, ap, ◌∙◌, subst}
use Rattle.std.proofs.Common.{append_assoc, append-nil}
use Rattle.git_msg.specs.Asked.{Asked}
use Rattle.git_client.specs.Events.{EventValue, offered, pack, progress, ended, pack_bytes, progress_bytes, turns_of}
use Rattle.git_client.specs.Transcript.{line_of, lines_of, next_asked, transcript_from}
use Rattle.git_client.specs.Machine.Turns.{values_of}
use Rattle.git_client.specs.Machine.RunSteps.{IsOneTurn}
use Rattle.git_client.specs.declared.events.Event.{Event}
use Rattle.git_client.specs.declared.events.Event.TheVariants.{Offered, Pack, Progress, Ended}

-- ---- events after which more is expected

-- events that do not end a response
pub quiet_turn : (events : List EventValue) → turns_of events ≡ 0 → IsOneTurn events false
quiet_turn [] none = refl
quiet_turn (offered ∷ events) none = absurd (omega (arith, none))
quiet_turn (ended ∷ events) none = absurd (omega (arith, none))
quiet_turn (event ∷ events) none = quiet_turn events none

-- events after which more is expected, and then others
pub turn_then : (events later : List EventValue) (asks : Bool) → IsOneTurn events false → IsOneTurn later asks → IsOneTurn (events ++ later) asks
turn_then [] later asks quiet one = one
turn_then (offered ∷ events) later asks quiet one = let differs = quiet.1 in absurd (cc)
turn_then (ended ∷ events) later asks quiet one = let differs = quiet.1 in absurd (cc)
turn_then (event ∷ events) later asks quiet one = turn_then events later asks quiet one

-- ---- what they add to a transcript

-- the next request's line follows the line of an event after which the client can ask
before_question : (line : List ℕ) (asked : List Asked) (more : List EventValue)
    → line ++ next_asked asked ++ transcript_from (drop 1 asked) 0 0 more
    ≡ (line ++ [] ++ []) ++ next_asked asked ++ transcript_from (drop 1 asked) 0 0 more
before_question line asked more =
    ap (λ (l : List ℕ). l ++ next_asked asked ++ transcript_from (drop 1 asked) 0 0 more) (sym (append-nil line) ∙ sym (append-nil (line ++ [])))

-- what these events add to a transcript, depending on whether the client can ask after them
abbrev pub Adds : Bool → List EventValue → Type 0
Adds true events = (asked : List Asked) (p q : ℕ) (more : List EventValue)
    → transcript_from asked p q (events ++ more) ≡ transcript_from [] p q events ++ next_asked asked ++ transcript_from (drop 1 asked) 0 0 more
Adds false events = (asked : List Asked) (p q : ℕ) (more : List EventValue)
    → transcript_from asked p q (events ++ more)
    ≡ transcript_from [] p q events ++ transcript_from asked (p + length (pack_bytes events)) (q + length (progress_bytes events)) more

-- if the client can ask after the events
last_adds : (events : List EventValue) → IsOneTurn events true → Adds true events
last_adds [] one asked p q more = absurd (cc)
last_adds (offered ∷ events) one asked p q more =
    subst (λ (l : List EventValue). transcript_from asked p q (offered ∷ l ++ more)
    ≡ transcript_from [] p q (offered ∷ l) ++ next_asked asked ++ transcript_from (drop 1 asked) 0 0 more) (sym one.0)
    (before_question (line_of offered p q) asked more)
last_adds (ended ∷ events) one asked p q more =
    subst (λ (l : List EventValue). transcript_from asked p q (ended ∷ l ++ more)
    ≡ transcript_from [] p q (ended ∷ l) ++ next_asked asked ++ transcript_from (drop 1 asked) 0 0 more) (sym one.0)
    (before_question (line_of ended p q) asked more)
last_adds (pack byte ∷ events) one asked p q more = last_adds events one asked (suc p) q more
last_adds (progress byte ∷ events) one asked p q more = last_adds events one asked p (suc q) more
last_adds (event ∷ events) one asked p q more =
    let line = line_of event p q in
    let lines = transcript_from [] p q events in
    ap (λ (l : List ℕ). line ++ l) (last_adds events one asked p q more)
    ∙ sym (append_assoc line (lines ++ next_asked asked) (transcript_from (drop 1 asked) 0 0 more))
    ∙ ap (λ (l : List ℕ). l ++ transcript_from (drop 1 asked) 0 0 more) (sym (append_assoc line lines (next_asked asked)))

-- if bytes are expected after the events
quiet_adds : (events : List EventValue) → IsOneTurn events false → Adds false events
quiet_adds [] one asked p q more =
    let first : p ≡ p + 0 = omega arith in
    let second : q ≡ q + 0 = omega arith in
    ap (λ (n : ℕ). transcript_from asked n q more) first ∙ ap (λ (n : ℕ). transcript_from asked (p + 0) n more) second
quiet_adds (offered ∷ events) one asked p q more = let differs = one.1 in absurd (cc)
quiet_adds (ended ∷ events) one asked p q more = let differs = one.1 in absurd (cc)
quiet_adds (pack byte ∷ events) one asked p q more =
    let total : suc p + length (pack_bytes events) ≡ p + suc (length (pack_bytes events)) = omega arith in
    quiet_adds events one asked (suc p) q more
    ∙ ap (λ (n : ℕ). transcript_from [] (suc p) q events ++ transcript_from asked n (q + length (progress_bytes events)) more) total
quiet_adds (progress byte ∷ events) one asked p q more =
    let total : suc q + length (progress_bytes events) ≡ q + suc (length (progress_bytes events)) = omega arith in
    quiet_adds events one asked p (suc q) more
    ∙ ap (λ (n : ℕ). transcript_from [] p (suc q) events ++ transcript_from asked (p + length (pack_bytes events)) n more) total
quiet_adds (event ∷ events) one asked p q more =
    ap (λ (l : List ℕ). line_of event p q ++ l) (quiet_adds events one asked p q more)
    ∙ sym (append_assoc (line_of event p q) (transcript_from [] p q events)
    (transcript_from asked (p + length (pack_bytes events)) (q + length (progress_bytes events)) more))

pub turn_adds : (asks : Bool) (events : List EventValue) → IsOneTurn events asks → Adds asks events
turn_adds true events one = last_adds events one
turn_adds false events one = quiet_adds events one

-- ---- the events of a response

-- bytes of the pack and of the progress have no lines
no_lines_of_pack : (bytes : List ℕ) (p q r : ℕ) → lines_of (map pack bytes) p q ≡ transcript_from [] r q (map pack bytes)
no_lines_of_pack [] p q r = refl
no_lines_of_pack (byte ∷ bytes) p q r = no_lines_of_pack bytes p q (suc r)

no_lines_of_progress : (bytes : List ℕ) (p q r : ℕ) → lines_of (map progress bytes) p q ≡ transcript_from [] p r (map progress bytes)
no_lines_of_progress [] p q r = refl
no_lines_of_progress (byte ∷ bytes) p q r = no_lines_of_progress bytes p q (suc r)

-- the lines of an event are its transcript
pub event_lines : (e : Event) (p q : ℕ) → lines_of (values_of e) p q ≡ transcript_from [] p q (values_of e)
event_lines (Pack bytes) p q = no_lines_of_pack bytes.now p q p
event_lines (Progress bytes) p q = no_lines_of_progress bytes.now p q q
event_lines Offered p q = sym (append-nil (line_of offered p q ++ []))
event_lines Ended p q = sym (append-nil (line_of ended p q ++ []))
event_lines event p q = refl

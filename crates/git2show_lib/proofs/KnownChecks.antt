-- A check where nothing was advertised that is not known.
use Rattle.std.proofs.Common.{◌≡◌, ℕ, List, [], ◌∷◌, ◌++◌, Option, None, Result, Ok, Err, map, inl, inr, refl, sym, ap, ◌∙◌, append-nil}
use Rattle.git_msg.specs.Asked.{Asked}
use Rattle.git_client.specs.Parts.{Terms}
use Rattle.git2show_lib.specs.Others.{Advertised}
use Rattle.git2show_lib.specs.Machine.CheckFaults.{Standing}
use Rattle.git2show_lib.specs.OtherLines.{Question, other}
use Rattle.git2show_lib.specs.Machine.CheckedStreams.{Begun, Checked, EndsAs, Found, Received, IsBad, bytes_begun, events_in, events_shown, received_shown}
use Rattle.git2show_lib.specs.Machine.CheckedStreams.{lines_begun, questions_in, turns_shown, whole_of}
use Rattle.git2show_lib.specs.declared.checking.CheckFault.{CheckFault}
use Rattle.git2show_lib.specs.declared.checking.CheckFault.TheVariants.{Requests, Responses, ReadFault, WriteFault, ReadLimit}
use Rattle.git_client.specs.Machine.Client.{History}
use Rattle.git_client.specs.Transcript.{transcript_of}
use Rattle.git2show_lib.proofs.KnownLines.{all_asked, plain}
use Rattle.git2show_lib.proofs.KnownTurns.{all_received, all_announced}

-- all but the last of such requests, and the last
last_known : (xs : List Question) (x : Question) (qs : List Asked) → xs ++ x ∷ [] ≡ map plain qs
    → ((earlier : List Asked) × (xs ≡ map plain earlier)) × ((q : Asked) × (x ≡ plain q))
last_known [] x [] same = cc
last_known [] x (q ∷ qs) same = (([], refl), (q, cc))
last_known (y ∷ xs) x [] same = cc
last_known (y ∷ xs) x (q ∷ qs) same =
    let first : y ≡ plain q = cc in
    let later : xs ++ x ∷ [] ≡ map plain qs = cc in
    let ((earlier, are), last) = last_known xs x qs later in
    ((q ∷ earlier, ap (λ (o : Question). o ∷ xs) first ∙ ap (λ (l : List Question). plain q ∷ l) are), last)

module _ (A : Type 0) (t : Terms) (by : Advertised) (limit : ℕ) (requests responses : Standing) (unused : List ℕ) (h : History) (r : Received) (found : Found)
    (qs : List Asked) (are : found.asked ≡ map plain qs) where
  -- all turns are by such requests, and no answer passes
  abbrev AllKnown : Type 0
  AllKnown = (asked : List Asked) × (questions_in r.turns ≡ map plain asked) × (r.begun ≡ None)

  -- just the requests that were read came in turn
  just_these : found.asked ≡ questions_in r.turns → r.begun ≡ None → AllKnown
  just_these asked none = (qs, sym asked ∙ are, none)

  -- one more was read
  one_more : (x : Question) → found.asked ≡ questions_in r.turns ++ x ∷ [] → r.begun ≡ None → AllKnown
  one_more x asked none =
      let ((earlier, before), last) = last_known (questions_in r.turns) x qs (sym asked ∙ are) in
      (earlier, before, none)

  -- it was none for another command
  no_other : (lines : List ℕ) → found.asked ≡ questions_in r.turns ++ other lines ∷ [] → ⊥
  no_other lines asked =
      let (before, (q, is)) = last_known (questions_in r.turns) (other lines) qs (sym asked ∙ are) in
      absurd (cc)

  known_all : (result : Result (Unit {0}) CheckFault) → EndsAs A t by limit result requests responses unused h r found → AllKnown
  known_all (Ok done) e = just_these e.answered.asked e.answered.nothing_begun
  known_all (Err (Requests fault)) e = just_these e.answered.asked e.answered.nothing_begun
  known_all (Err (Responses fault)) (inl e) = bad e.is where
    bad : IsBad A t by requests responses unused h r found e.own → AllKnown
    bad (inl b) = just_these b.all_asked.asked b.all_asked.nothing_begun
    bad (inr (inl b)) = just_these b.answered.asked b.answered.nothing_begun
    bad (inr (inr (inl b))) = one_more _ b.asked b.nothing_begun
    bad (inr (inr (inr b))) = just_these b.answered.asked b.answered.nothing_begun
  known_all (Err (Responses fault)) (inr (inl e)) = absurd (no_other e.is.begun.lines e.is.expected.asked)
  known_all (Err (Responses fault)) (inr (inr (earlier, e))) = just_these e.is.all_asked.asked e.is.all_asked.nothing_begun
  known_all (Err ReadFault) (inl (inl w, why)) = just_these w.all_asked.asked w.all_asked.nothing_begun
  known_all (Err ReadFault) (inl (inr w, why)) = absurd (no_other w.begun.lines w.expected.asked)
  known_all (Err ReadFault) (inr (inl (w, why))) = just_these w.answered.asked w.answered.nothing_begun
  known_all (Err ReadFault) (inr (inr (w, why))) = just_these w.answered.asked w.answered.nothing_begun
  known_all (Err WriteFault) (inl e) = just_these e.asked e.nothing_begun
  known_all (Err WriteFault) (inr e) = absurd (no_other e.begun.lines e.expected.asked)
  known_all (Err ReadLimit) (inl (inl w, why)) = just_these w.all_asked.asked w.all_asked.nothing_begun
  known_all (Err ReadLimit) (inl (inr w, why)) = absurd (no_other w.begun.lines w.expected.asked)
  known_all (Err ReadLimit) (inr (inl (w, why))) = just_these w.answered.asked w.answered.nothing_begun
  known_all (Err ReadLimit) (inr (inr (w, why))) = just_these w.answered.asked w.answered.nothing_begun

-- a client received all of the responses that were used, and their transcript is its own
pub all_as_known : {A : Type 0} (t : Terms) (limit : ℕ) (result : Result (Unit {0}) CheckFault) (requests responses : Standing)
    (read given : List (List ℕ)) (c : Checked A t limit result requests responses read given) → c.by.text ≡ []
    → (read ≡ (c.found.used ++ c.found.unused) ∷ (c.h.used ++ c.unused) ∷ []) × (given ≡ transcript_of c.h.asked c.h.events ∷ [])
all_as_known {A} t limit result requests responses read given c none =
    let asks = rw none at c.asks.requests in
    let (qs, are) = all_asked c.by.offer limit c.asks.packets c.found.asked c.found.left asks in
    let (asked, same, nothing) = known_all A t c.by limit requests responses c.unused c.h c.r c.found qs are result c.ends in
    let bytes : whole_of c.r ++ bytes_begun c.r.begun ≡ c.h.used =
    ap (λ (b : Option Begun). whole_of c.r ++ bytes_begun b) nothing ∙ append-nil (whole_of c.r)
    ∙ ap (λ (l : List ℕ). c.r.opening ++ l) (all_received t c.r.opening c.r.greeting [] c.r.turns asked c.received.in_turn same)
    ∙ sym c.received.used_is in
    let lines : received_shown c.r ≡ transcript_of c.h.asked c.h.events =
    ap (λ (b : Option Begun). (events_shown c.r.greeting ++ turns_shown c.r.turns) ++ lines_begun b) nothing
    ∙ append-nil (events_shown c.r.greeting ++ turns_shown c.r.turns)
    ∙ sym (all_announced t c.r.opening c.r.greeting c.r.turns asked c.received.in_turn same)
    ∙ ap (λ (qs : List Asked). transcript_of qs (c.r.greeting ++ events_in c.r.turns)) (sym c.received.asked_is)
    ∙ ap (transcript_of c.h.asked) (sym c.received.events_are) in (
      c.were_read ∙ ap (λ (l : List ℕ). (c.found.used ++ c.found.unused) ∷ (l ++ c.unused) ∷ []) bytes,
      c.announced ∙ ap (λ (l : List ℕ). l ∷ []) lines,
    )

-- An input that no machine of a run needed.
use Rattle.std.proofs.Common.{◌≡◌, ◌⊎◌, inl, inr, ℕ, Bool, true, false, List, [], ◌∷◌, sym, ap, ◌∙◌, subst}
use Rattle.git_loop.specs.Moves.{Move}
use Rattle.git_loop.specs.Streams.{InputState}
use Rattle.git_loop.specs.Machines.{LeadBy, Moment, Reading, ReadsAsNeeded, States, Views}
use Rattle.git_loop.proofs.Numbers.{over_number}

-- `Stays` is known of each machine of the run; only those with the property `P` need the input of the number `k`; and the moves of a machine keep
-- both
module _ {M I O : Type 0} (states : States M) (views : Views I O) (Stays P : M → Type 0) (k : ℕ)
    (stays : (old new : M) (t : List Move) → states.reaches old t new → Stays old → Stays new)
    (keeps : (old new : M) (t : List Move) → states.reaches old t new → Stays old → P old → P new)
    (only : (m : M) → Stays m → states.needs_input m k → P m) where
  -- the machine has the property, or the input is as it was
  abbrev pub HasOrUnread : Moment M I O → Moment M I O → Type 0
  HasOrUnread first now = P now.machine ⊎ (views.input now.inputs k ≡ views.input first.inputs k)

  led_so : (broken : Bool) (first now : Moment M I O) (readings : List (Reading M I O)) → LeadBy states views broken first readings now
      → Stays first.machine → (views.input first.inputs k).window ≡ [] → Stays now.machine × HasOrUnread first now
  led_so broken first now [] (went, quiet) s empty = (stays first.machine now.machine went.trace went.reaches s, inr ((quiet k).empty empty))
  led_so broken first now (reading ∷ earlier) (lead, needed, went, read) s empty =
      let (s_at, so_far) = led_so false first reading.at earlier lead s empty in
      let on : P reading.at.machine → HasOrUnread first now = λ p. inl (keeps reading.at.machine now.machine went.trace went.reaches s_at p) in (
        stays reading.at.machine now.machine went.trace went.reaches s_at,
        elim so_far [
          | inl p ↦ on p
          | inr same ↦ over_number k reading.from true (λ (b : Bool). HasOrUnread first now)
              (λ here. on (only reading.at.machine s_at (subst (λ (n : ℕ). states.needs_input reading.at.machine n) (sym here) needed.needs)))
              (λ other. inr ((read.others k other).empty (ap (λ (i : InputState). i.window) same ∙ empty) ∙ same))
        ],
      )

  -- after a run the machine has the property, or the input was not read: it is as it was, if no bytes of it waited
  pub has_or_unread : {broken : Bool} {first now : Moment M I O} → ReadsAsNeeded states views broken first now → Stays first.machine
      → (views.input first.inputs k).window ≡ [] → HasOrUnread first now
  has_or_unread {broken} {first} {now} reads s empty = (led_so broken first now reads.readings reads.lead s empty).1

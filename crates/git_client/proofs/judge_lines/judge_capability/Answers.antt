use Rattle.std.proofs.Common.{arith, ◌≡◌, ℕ, ◌+◌, Bool, Option, Some, None, List, ◌∷◌, length, take, drop, refl, sym, ap, ◌∙◌, length-append, Bor}
use Rattle.std.specs.Option.{is_some, option_copied}
use Rattle.std.proofs.Math.Seq.{drop-append-add, take-append_seam, take-length}
use Rattle.git_msg.specs.Capability.{IsCapability}
use Rattle.git_client.specs.Machine.Turns.{LiesIn, value_at}
use Rattle.git_client.specs.declared.phase.CapabilityPlaces.{CapabilityPlaces}
use Rattle.git_client.proofs.judge_lines.judge_capability.Goals as goal

abbrev places_of : List ℕ → Option (List ℕ) → CapabilityPlaces
places_of key value = record { key_length = length key; has_value = is_some value }

-- the parts of a capability line are at these places
located : (text key : List ℕ) (value : Option (List ℕ)) → IsCapability text key value
    → (take (length key) text ≡ key) × (value_at (places_of key value) text ≡ value) × LiesIn (places_of key value) text
located text key None (key_is, spelled) = (
  ap (take (length key)) spelled ∙ take-length key,
  refl,
  record { key = omega (arith, ap length spelled); value = λ e. absurd (cc) },
)
located text key (Some value) (key_is, spelled, value_is) =
    let size = ap length spelled ∙ length-append key (61 ∷ value) in (
      ap (take (length key)) spelled ∙ take-append_seam key (61 ∷ value),
      ap (λ (l : List ℕ). Some (drop (length key + 1) l)) spelled ∙ ap Some (drop-append-add key (61 ∷ value) 1),
      record { key = omega arith; value = λ _. omega arith },
    )

some_copied : (value : Option (Bor (List ℕ))) (b : Bool) → b ≡ is_some value → is_some (option_copied value) ≡ b
some_copied None b is = sym is
some_copied (Some value) b is = sym is

pub returns-clause-line : goal.returns-clause-line
returns-clause-line c =
    let text = c.args.line.now in
    let capability = c.in_ok-capability.capability in
    let line = c.in_ok-capability.ensures.line in
    let (key, value, within) = located text capability.key.now (option_copied capability.value) line in
    rw (← some_copied capability.value _ c.is_some.ensures) (record {
      is_line = rw (key, value) line;
      within = within;
      notes = λ packets bytes is noted. c.with.ensures.notes packets bytes noted (rw is line);
    })

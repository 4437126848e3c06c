-- The names that agents have.
use Rattle.std.proofs.Common.{◌≡◌, ℕ, ◌≤◌, ◌&&◌, not, Bool, true, false, List, [], ◌∷◌, ap, refl, length, ◌∙◌, rules, tests}
use Rattle.std.specs.Prelude.{IsTrue}
use Rattle.std.specs.List.{list_all}
use Rattle.std.specs.Char.{is_ascii_graphic}
use Rattle.std.proofs.lemmas.Bool.{and_parts, leb-true}
use Rattle.git_msg.specs.Agents.{agent_text}
use Rattle.git_msg.specs.Capability.{is_value, is_value_byte}
use Rattle.git_msg.specs.declared.agent.Agent.{Agent}

-- a printable character is a byte that a value may have
graphic_is_value : (c : ℕ) → is_ascii_graphic c ≡ true → is_value_byte c ≡ true
graphic_is_value c h = search (rules, tests)

graphic_are_value : (text : List ℕ) → list_all is_ascii_graphic text ≡ true → list_all is_value_byte text ≡ true
graphic_are_value [] h = refl
graphic_are_value (c ∷ text) h =
    let parts = and_parts _ _ h in
    ap (λ b. b && list_all is_value_byte text) (graphic_is_value c parts.0) ∙ graphic_are_value text parts.1

-- the characters of a text of the right length decide
pub all_decides : (empty fits all : Bool) → empty ≡ false → fits ≡ true → (not empty && fits && all) ≡ all
all_decides empty fits all e f = rw (e, f) refl

-- the name of an agent is the value of a capability
pub agent_is_value : (a : Agent) → IsTrue (is_value (agent_text a))
agent_is_value a = graphic_are_value (agent_text a) (and_parts _ _ a.named).1

pub agent_is_short : (a : Agent) → length (agent_text a) ≤ 63
agent_is_short a = leb-true _ _ (and_parts _ _ (and_parts _ _ a.named).0).1

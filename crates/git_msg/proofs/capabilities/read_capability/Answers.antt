use Rattle.std.proofs.Common.{[], arith, sym, ap, ◌∙◌, List, ℕ, Bor, ◌≡◌, Bool, Option, unwrap_or, rules}
use Rattle.std.specs.Option.{option_copied}
use Rattle.git_msg.specs.Capability.{is_value}
use Rattle.git_msg.proofs.Keys.{is_capability, no_key, no_value, value_there, value_within}
use Rattle.git_msg.proofs.capabilities.read_capability.Goals as goal

value_tested : (value : Option (Bor (List ℕ))) (empty given : Bor (List ℕ)) (b : Bool) → given ≡ unwrap_or value empty → empty.now ≡ []
    → b ≡ is_value given.now → is_value (unwrap_or (option_copied value) []) ≡ b
value_tested value empty given b is none e = sym (e ∙ ap is_value (ap (λ (x : Bor (List ℕ)). x.now) is ∙ value_there value empty none))

pub returns-then-not-is_key-clause-line : goal.returns-then-not-is_key-clause-line
returns-then-not-is_key-clause-line c = search (rules, no_key)

pub returns-then-not-is_value-clause-line : goal.returns-then-not-is_value-clause-line
returns-then-not-is_value-clause-line c = search (rules, no_value, value_tested)

pub returns-clause-line : goal.returns-clause-line
returns-clause-line c = search (rules, is_capability, value_tested)

pub returns-clause-within : goal.returns-clause-within
returns-clause-within c = omega (arith, c.split_at_first.ensures.whole, value_within (option_copied c.split_at_first.result.1))

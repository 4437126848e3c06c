use Rattle.std.proofs.Common.{[], ◌≡◌, ◌∙◌, ap, refl, List, ℕ, Bor, unwrap_or, rules}
use Rattle.std.specs.Option.{option_copied}
use Rattle.git_msg.specs.Advertisement.{noted_with}
use Rattle.git_msg.proofs.Keys.{key_is, value_is, value_there}
use Rattle.git_msg.proofs.Noted.{noted_with_is}
use Rattle.git_msg.proofs.offers.Caps.with.Goals as goal

value_at : (c : goal.After-with_line) → c.unwrap_or-value.result.now ≡ unwrap_or (option_copied c.args.capability.now.value) []
value_at c = ap (λ (b : Bor (List ℕ)). b.now) c.unwrap_or-value.ensures ∙ value_there c.args.capability.now.value _ refl

pub returns-clause-exact : goal.returns-clause-exact
returns-clause-exact c = c.with_line.ensures.exact ∙ ap (λ (v : List ℕ). noted_with c.args.self c.args.capability.now.key.now v) (value_at c)

pub returns-clause-notes : goal.returns-clause-notes
returns-clause-notes c = search (rules, noted_with_is, key_is, value_at, value_is)

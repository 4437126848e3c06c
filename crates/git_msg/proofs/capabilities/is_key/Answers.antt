use Rattle.std.proofs.Common.{rules, tests, sym, ◌∙◌}
use Rattle.std.proofs.lemmas.Iterator.{YieldsList-from_slice}
use Rattle.std.proofs.lemmas.Iterator.Search.{all_from_yields_List}
use Rattle.git_msg.specs.Capability.{is_key_byte}
use Rattle.git_msg.proofs.Keys.{key_with_some}
use Rattle.git_msg.proofs.capabilities.is_key.Goals as goal

pub returns-then-not-is_empty : goal.returns-then-not-is_empty
returns-then-not-is_empty c = record {
  value = all_from_yields_List is_key_byte _ _ _ c.all.ensures.ran (YieldsList-from_slice c.args.text.now cc) (λ x b q k. search (rules, tests))
      ∙ sym (key_with_some _ _ (sym c.is_empty.ensures ∙ c.if-not-is_empty.true));
}

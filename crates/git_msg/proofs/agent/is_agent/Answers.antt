use Rattle.std.proofs.Common.{arith, rules, tests, sym, ◌∙◌}
use Rattle.std.specs.Char.{is_ascii_graphic}
use Rattle.std.proofs.lemmas.Bool.{le-leb}
use Rattle.std.proofs.lemmas.Iterator.{YieldsList-from_slice}
use Rattle.std.proofs.lemmas.Iterator.Search.{all_from_yields_List}
use Rattle.git_msg.proofs.AgentNames.{all_decides}
use Rattle.git_msg.proofs.agent.is_agent.Goals as goal

pub returns : goal.returns
returns c =
    all_from_yields_List is_ascii_graphic _ _ _ c.all.ensures.ran (YieldsList-from_slice c.args.text.now cc) (λ x b q k. search (rules, tests))
    ∙ sym (all_decides _ _ _ (sym c.is_empty.ensures ∙ c.if-is_empty.false) (le-leb _ _ (omega (arith, c.if-text-gt-LONGEST.false))))

use Rattle.std.proofs.Common.{sym, ◌∙◌}
use Rattle.gitwire.proofs.GreetingParts.{nul_inside}
use Rattle.gitwire.proofs.greetings.has_nul.Goals as goal

pub returns-clause-some : goal.returns-clause-some
returns-clause-some c = λ some lacks. nul_inside _ _ _ c.split_at_first.ensures.cut (sym c.is_some.ensures ∙ some) lacks

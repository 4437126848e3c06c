use Rattle.std.proofs.Common.{rules}
use Rattle.git_msg.proofs.OptionsAlone.{alone_of_all, sound_alone}
use Rattle.git_msg.proofs.kept.KeptArguments.options_alone.Goals as goal

pub invariant_of-result : goal.invariant_of-result
invariant_of-result g c = search (rules, sound_alone)

pub returns-clause-own : goal.returns-clause-own
returns-clause-own g c = alone_of_all _ _ c.options_alone.ensures.options

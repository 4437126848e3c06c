use Rattle.std.proofs.Common.{arith, rules}
use Rattle.git_msg.proofs.HeadWords.{none_at, none_past, none_there, own_command}
use Rattle.git_msg.proofs.arguments.Command.split.Goals as goal

pub words-init : goal.words-init
words-init c = search (rules, none_past)

pub words-preserved : goal.words-preserved
words-preserved c = record { within = omega arith; none = none_at _ _ _ _ _ (omega arith) (omega arith) c.words.invariant.none c.in_default.ensures.value }

pub returns-clause-parts : goal.returns-clause-parts
returns-clause-parts c = none_there _ _ _ _ c.words-words.ensures.words (omega arith) c.words.invariant.none

pub returns-in-Some-clause-parts : goal.returns-in-Some-clause-parts
returns-in-Some-clause-parts c = search (rules, own_command)

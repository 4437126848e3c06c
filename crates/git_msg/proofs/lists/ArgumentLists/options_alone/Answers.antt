use Rattle.std.proofs.Common.{rules}
use Rattle.git_msg.proofs.HeldArguments.{options_held}
use Rattle.git_msg.proofs.lists.ArgumentLists.options_alone.Goals as goal

pub returns-clause-options : goal.returns-clause-options
returns-clause-options g c = search (rules, options_held)

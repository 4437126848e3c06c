use Rattle.std.proofs.Common.{rules}
use Rattle.git_msg.proofs.AskedValues.{none_wanted}
use Rattle.git_msg.proofs.kept.KeptArguments.has_wants.Goals as goal

pub returns-else-has : goal.returns-else-has
returns-else-has g c = search (rules, none_wanted)

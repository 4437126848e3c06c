use Rattle.std.proofs.Common.{refl}
use Rattle.git_msg.proofs.HeldArguments.{none_held}
use Rattle.git_msg.proofs.lists.ArgumentLists.new.Goals as goal

pub returns-clause-none : goal.returns-clause-none
returns-clause-none g c = none_held _ c.new.ensures c.new-2.ensures c.new-3.ensures.texts refl

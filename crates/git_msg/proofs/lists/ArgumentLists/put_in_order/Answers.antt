use Rattle.std.proofs.Common.{rules}
use Rattle.git_msg.proofs.HeldArguments.{elsewhere}
use Rattle.git_msg.proofs.lists.ArgumentLists.put_in_order.Goals as goal

pub returns-clause-others : goal.returns-clause-others
returns-clause-others g c = search (rules, elsewhere)

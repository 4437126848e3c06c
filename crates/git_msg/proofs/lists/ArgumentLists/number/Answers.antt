use Rattle.std.proofs.Common.{arith}
use Rattle.std.proofs.lemmas.Grind.{common_steps}
use Rattle.git_msg.proofs.HeldArguments.{number_is}
use Rattle.git_msg.proofs.lists.ArgumentLists.number.Goals as goal

pub returns : goal.returns
returns g c = rw (number_is c.args.self.now c.args.word) (grind (arith, common_steps))

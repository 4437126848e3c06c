use Rattle.std.proofs.Common.{arith}
use Rattle.std.proofs.lemmas.Grind.{common_steps}
use Rattle.git_msg.proofs.HeldArguments.{flag_is}
use Rattle.git_msg.proofs.lists.ArgumentLists.has.Goals as goal

pub returns : goal.returns
returns g c = rw (flag_is c.args.self.now c.args.flag) (grind (arith, common_steps))

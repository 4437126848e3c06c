use Rattle.std.proofs.Common.{arith}
use Rattle.std.proofs.lemmas.Grind.{common_steps}
use Rattle.git_msg.proofs.HeldArguments.{ids_are}
use Rattle.git_msg.proofs.lists.ArgumentLists.ids.Goals as goal

pub returns : goal.returns
returns g c = rw (ids_are c.args.self.now c.args.word) (grind (arith, common_steps))

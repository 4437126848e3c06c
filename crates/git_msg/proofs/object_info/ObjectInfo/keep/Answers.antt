use Rattle.git_msg.specs.declared.arguments.Command.{Command}
use Rattle.git_msg.proofs.object_info.ObjectInfo.keep.Goals as goal

pub invariant_of-self : goal.invariant_of-self
invariant_of-self g c = c.keep.ensures.own Command.ObjectInfo c.requires.value.0 c.self.invariant

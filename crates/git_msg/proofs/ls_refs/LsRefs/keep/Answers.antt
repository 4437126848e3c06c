use Rattle.git_msg.specs.declared.arguments.Command.{Command}
use Rattle.git_msg.proofs.ls_refs.LsRefs.keep.Goals as goal

pub invariant_of-self : goal.invariant_of-self
invariant_of-self g c = c.keep.ensures.own Command.LsRefs c.requires.value.0 c.self.invariant

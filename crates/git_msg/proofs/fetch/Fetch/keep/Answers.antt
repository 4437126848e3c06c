use Rattle.git_msg.specs.declared.arguments.Command.{Command}
use Rattle.git_msg.proofs.fetch.Fetch.keep.Goals as goal

pub invariant_of-self : goal.invariant_of-self
invariant_of-self g c = c.keep.ensures.own Command.Fetch c.requires.value.0 c.self.invariant

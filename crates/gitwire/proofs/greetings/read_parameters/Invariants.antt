use Rattle.std.proofs.Common.{length}
use Rattle.gitwire.proofs.GreetingParts.{ReadSoFar}
use Rattle.gitwire.proofs.greetings.read_parameters.Given as goal

abbrev pub invariant-loop-rest : goal.invariant-loop-rest
invariant-loop-rest l = ReadSoFar l.fn.text l.rest l.wants

abbrev pub decreases-loop-rest : goal.decreases-loop-rest
decreases-loop-rest l = length l.rest

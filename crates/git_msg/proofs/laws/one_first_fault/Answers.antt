use Rattle.git_msg.proofs.FaultLaws.{one_first_fault}
use Rattle.git_msg.proofs.laws.one_first_fault.Goals as goal

pub returns : goal.returns
returns c = one_first_fault

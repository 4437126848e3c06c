use Rattle.git_msg.proofs.FaultLaws.{no_fault_in_request}
use Rattle.git_msg.proofs.laws.no_fault_in_request.Goals as goal

pub returns : goal.returns
returns c = no_fault_in_request

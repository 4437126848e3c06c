use Rattle.git_client.proofs.Determined.{one_first_fault}
use Rattle.git_client.proofs.laws.one_first_fault.Goals as goal

pub returns : goal.returns
returns c = one_first_fault

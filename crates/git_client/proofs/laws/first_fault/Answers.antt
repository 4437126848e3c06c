use Rattle.git_client.proofs.Faults.{first_fault}
use Rattle.git_client.proofs.laws.first_fault.Goals as goal

pub returns : goal.returns
returns g c = first_fault

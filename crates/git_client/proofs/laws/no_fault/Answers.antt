use Rattle.git_client.proofs.EventsReceived.{goes_well}
use Rattle.git_client.proofs.laws.no_fault.Goals as goal

pub returns : goal.returns
returns g c = goes_well

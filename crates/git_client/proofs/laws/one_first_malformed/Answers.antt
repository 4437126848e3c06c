use Rattle.git_client.proofs.OneFault.{one_shown, one_by_name}
use Rattle.git_client.proofs.laws.one_first_malformed.Goals as goal

pub returns : goal.returns
returns c = record { shown = one_shown; by_name = one_by_name }

use Rattle.git_client.proofs.EventsReceived.{all_is_sent}
use Rattle.git_client.proofs.laws.all_is_sent.Goals as goal

pub returns : goal.returns
returns g c = all_is_sent

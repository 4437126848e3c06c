use Rattle.git_client.proofs.EventsReceived.{is_whole}
use Rattle.git_client.proofs.laws.whole_responses.Goals as goal

pub returns : goal.returns
returns g c = is_whole

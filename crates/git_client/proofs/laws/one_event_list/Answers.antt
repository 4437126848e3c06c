use Rattle.git_client.proofs.Determined.{one_event_list}
use Rattle.git_client.proofs.laws.one_event_list.Goals as goal

pub returns : goal.returns
returns c = one_event_list

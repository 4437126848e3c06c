use Rattle.git_client.proofs.EventsReceived.{has_events}
use Rattle.git_client.proofs.laws.received_events.Goals as goal

pub returns : goal.returns
returns g c = has_events

use Rattle.git_client.proofs.EventsReceived.{has_noted}
use Rattle.git_client.proofs.client.Client.caps.Goals as goal

pub returns-clause-noted : goal.returns-clause-noted
returns-clause-noted g c = λ t h v. has_noted t h c.args.self.now v

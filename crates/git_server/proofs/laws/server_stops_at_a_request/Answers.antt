use Rattle.git_server.proofs.SessionLaws.{at_a_request}
use Rattle.git_server.proofs.laws.server_stops_at_a_request.Goals as goal

pub returns : goal.returns
returns g c = λ s used over given r. at_a_request g.R.Repo.state c.args.server.now s used over given r

use Rattle.git_server.proofs.SessionLaws.{ending, every_moment, going_on}
use Rattle.git_server.proofs.laws.server_keeps_to_its_session.Goals as goal

pub returns : goal.returns
returns g c = record {
  within = λ s used over given r. r.within;
  session = λ s used over given r. every_moment g.R.Repo.state c.args.server.now s used over given r;
  goes_on = λ s used over given r. going_on g.R.Repo.state c.args.server.now s used over given r;
  ends = λ s used over given outcome r. ending g.R.Repo.state c.args.server.now s used over given r outcome;
}

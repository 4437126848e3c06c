use Rattle.git_server.proofs.Going.{no_outcome}
use Rattle.git_server.proofs.OneSession.{waits_behind_all}
use Rattle.git_server.proofs.SessionLaws.{all_answered}
use Rattle.git_server.proofs.laws.server_waits_where_all_is_given.Goals as goal

pub returns : goal.returns
returns g c =
    λ s used over given r.
    let server = c.args.server.now in (
      λ wants. (no_outcome server.phase wants, all_answered g.R.Repo.state server s used over given r wants),
      λ all. waits_behind_all g.R.Repo.state server s used over given r all.0 all.1,
    )

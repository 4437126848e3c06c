use Rattle.git_server.proofs.UnbornHead.{asked_named}
use Rattle.git_server.proofs.ls_refs.shown_unborn.Goals as goal

pub returns-clause-name : goal.returns-clause-name
returns-clause-name g c = asked_named _ _ c.unborn_head.result (g.met.R.Repo.sound c.args.repo.now).unborn c.unborn_head.ensures

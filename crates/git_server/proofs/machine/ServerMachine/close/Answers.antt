use Rattle.git_server.proofs.Machines.{closes_in_time, reaches_closed}
use Rattle.git_server.proofs.machine.ServerMachine.close.Goals as goal

pub returns-clause-reaches : goal.returns-clause-reaches
returns-clause-reaches g c = reaches_closed g.R.Repo.state _ _ c.args.from c.requires.0 c.close.ensures.closes

pub returns-clause-short : goal.returns-clause-short
returns-clause-short g c = λ session k short. absurd (closes_in_time g.R.Repo.state _ _ c.close.ensures.closes session short.1)

use Rattle.std.proofs.Common.{sym, ◌∙◌}
use Rattle.git_server.proofs.RunLemmas.{serves, serves_at, waits_at}
use Rattle.git_server.proofs.SessionLaws.{ends_now}
use Rattle.git_server.proofs.run.serve.Goals as goal

pub returns-in_err-run-clause-served : goal.returns-in_err-run-clause-served
returns-in_err-run-clause-served g c =
    serves_at g.R.Repo.state c.args.server.now c.run.new.machine _ _ _ _ c.from_residual.ensures.1 c.in_err-run.ensures.ran

pub returns-in_err-run-clause-goes_on : goal.returns-in_err-run-clause-goes_on
returns-in_err-run-clause-goes_on g c =
    waits_at g.R.Repo.state c.args.server.now c.run.new.machine _ _ _ _ c.from_residual.ensures.1 c.in_err-run.ensures.ran

pub returns-clause-served : goal.returns-clause-served
returns-clause-served g c =
    serves g.R.Repo.state c.args.server.now c.run.new.machine _ _ c.in-Finished.outcome (sym c.turn.ensures ∙ c.in-Finished.is) c.in_ok-run.ensures.ran

pub returns-clause-ends : goal.returns-clause-ends
returns-clause-ends g c =
    let announces = (ends_now g.R.Repo.state c.run.new.machine c.in-Finished.outcome (sym c.turn.ensures ∙ c.in-Finished.is)).announces in
    (announces.0, announces.1)

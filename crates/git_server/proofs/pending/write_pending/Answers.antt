use Rattle.git_server.proofs.UnsentLemmas.{flushed_for, on_err_at, unread_flushed, written_part}
use Rattle.git_server.proofs.pending.write_pending.Goals as goal

pub returns-clause-unread : goal.returns-clause-unread
returns-clause-unread g c none =
    unread_flushed g.R.Repo.state _ _ _ _ _ (c.in_ok-outcome.ensures.unread none) c.in_ok-flush.ensures.bytes

pub returns-clause-ok : goal.returns-clause-ok
returns-clause-ok g c = flushed_for g.R.Repo.state _ _ _ _ _ c.in_ok-outcome.outcome c.in_ok-outcome.ensures.ok c.in_ok-flush.ensures.bytes

pub returns-in_err-flush-clause-front : goal.returns-in_err-flush-clause-front
returns-in_err-flush-clause-front g c =
    on_err_at _ _ _ c.from_residual-in_err-flush.ensures.1
    (written_part g.R.Repo.state _ _ _ _ _ c.in_ok-outcome.outcome c.in_ok-outcome.ensures.ok c.in_err-flush.ensures.bytes)

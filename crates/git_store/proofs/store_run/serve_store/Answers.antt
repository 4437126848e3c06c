use Rattle.std.proofs.Common.{sym, ◌∙◌}
use Rattle.git_store.proofs.StoreRunLemmas.{serves, serves_at, stopped, waits_at}
use Rattle.git_store.proofs.store_run.serve_store.Goals as goal

pub returns-in_err-run-clause-served : goal.returns-in_err-run-clause-served
returns-in_err-run-clause-served g c =
    serves_at g.S.Store.begins g.S.Store.replies c.args.hosted.now c.run.new.machine _ _ _ _ c.from_residual.ensures.1 c.in_err-run.ensures.ran

pub returns-in_err-run-clause-goes_on : goal.returns-in_err-run-clause-goes_on
returns-in_err-run-clause-goes_on g c =
    waits_at g.S.Store.begins g.S.Store.replies c.args.hosted.now c.run.new.machine _ _ _ _ c.from_residual.ensures.1 c.in_err-run.ensures.ran

pub returns-clause-served : goal.returns-clause-served
returns-clause-served g c =
    serves g.S.Store.begins g.S.Store.replies c.args.hosted.now c.run.new.machine _ _ c.outcome.result (sym c.outcome.ensures) c.in_ok-run.ensures.ran

pub returns-clause-ends : goal.returns-clause-ends
returns-clause-ends g c = (
  sym c.outcome.ensures,
  λ none. stopped g.S.Store.begins g.S.Store.replies c.args.hosted.now c.run.new.machine _ _ c.in_ok-run.ensures.ran (sym c.outcome.ensures ∙ none),
)

use Rattle.std.proofs.Common.{sym, ◌∙◌}
use Rattle.git_loop.specs.OneStreams.{writer_of}
use Rattle.git_loop.specs.TwoStreams.{first_reader_of, first_waiting, second_reader_of, second_waiting}
use Rattle.git2show_lib.proofs.CheckRun.{checked_judged, checked_stopped, stopped_fails, stopped_shown, verdict_fails, verdict_fits, verdict_shown}
use Rattle.git2show_lib.proofs.checking.judge.Goals as goal

pub returns-in-Err-clause-checked : goal.returns-in-Err-clause-checked
returns-in-Err-clause-checked g c = λ t limit begun.
    rw c.from.ensures
    (checked_stopped c.args.judging.now c.run_judge.new.judging begun g.Q.Read.remaining g.R.Read.remaining g.O.Write.contents
    (first_reader_of c.args.inputs.now) (first_reader_of c.run_judge.new.inputs) (second_reader_of c.args.inputs.now)
    (second_reader_of c.run_judge.new.inputs) (first_waiting c.run_judge.new.inputs) (second_waiting c.run_judge.new.inputs)
    (writer_of c.args.output.now) (writer_of c.run_judge.new.output) c.run_judge.ensures.opened c.in-Err.fault
    (rw c.in-Err.is at c.run_judge.ensures.ran))

pub returns-in-Err-clause-fault : goal.returns-in-Err-clause-fault
returns-in-Err-clause-fault g c = rw c.from.ensures (stopped_shown c.in-Err.fault _ _ _ (rw c.in-Err.is at c.run_judge.ensures.fault))

pub returns-in-Err-clause-announced : goal.returns-in-Err-clause-announced
returns-in-Err-clause-announced g c = rw c.from.ensures (stopped_fails c.in-Err.fault _ _ (rw c.in-Err.is at c.run_judge.ensures.announced))

pub returns-clause-checked : goal.returns-clause-checked
returns-clause-checked g c = λ t limit begun.
    checked_judged c.args.judging.now c.run_judge.new.judging begun g.Q.Read.remaining g.R.Read.remaining g.O.Write.contents
    (first_reader_of c.args.inputs.now) (first_reader_of c.run_judge.new.inputs) (second_reader_of c.args.inputs.now)
    (second_reader_of c.run_judge.new.inputs) (first_waiting c.run_judge.new.inputs) (second_waiting c.run_judge.new.inputs)
    (writer_of c.args.output.now) (writer_of c.run_judge.new.output) c.run_judge.ensures.opened c.in-Some.verdict
    (sym c.verdict.ensures ∙ c.in-Some.is) c.in_default.ensures.announced.0 c.in_default.ensures.ran

pub returns-clause-fault : goal.returns-clause-fault
returns-clause-fault g c =
    verdict_shown c.in-Some.verdict _ _ _
    (verdict_fits c.run_judge.new.judging.checker c.in-Some.verdict (sym c.verdict.ensures ∙ c.in-Some.is))

pub returns-clause-announced : goal.returns-clause-announced
returns-clause-announced g c =
    verdict_fails c.in-Some.verdict (verdict_fits c.run_judge.new.judging.checker c.in-Some.verdict (sym c.verdict.ensures ∙ c.in-Some.is))
    c.in_default.ensures.announced

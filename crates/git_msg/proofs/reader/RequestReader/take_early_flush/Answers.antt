use Rattle.std.proofs.Common.{List, rules, subst, sym}
use Rattle.std.proofs.lemmas.Result.{err_from_is_err_and}
use Rattle.git_msg.specs.Arguments.{Arg}
use Rattle.git_msg.specs.Asked.{asked_for}
use Rattle.git_msg.specs.Checks.{Passes, Refuses}
use Rattle.git_msg.specs.Lines.{end_checks}
use Rattle.git_msg.proofs.StepFacts.{flushed, flush_refused}
use Rattle.git_msg.proofs.reader.RequestReader.take_early_flush.Goals as goal

pub returns-clause-goes_on : goal.returns-clause-goes_on
returns-clause-goes_on g c barred =
    flushed barred c.args.self.now c.begin.new.self c.in_ok-command.command c.requires c.in_ok-command.ensures.command
    (subst (λ (args : List Arg). Passes (end_checks (asked_for c.in_ok-command.command args))) (sym c.arguments.ensures.asked) c.in_ok-check_end.ensures)
    c.begin.ensures

pub returns-in_err-check_end-clause-goes_on : goal.returns-in_err-check_end-clause-goes_on
returns-in_err-check_end-clause-goes_on g c barred =
    let p = err_from_is_err_and c.from_residual-in_err-check_end.result c.from_residual-in_err-check_end.ensures.1 in
    rw (p.1, p.2)
    (flush_refused barred c.args.self.now c.in_ok-command.command c.in_err-check_end.field-0.0 c.requires (search rules)
    c.in_ok-command.ensures.command
    (subst (λ (args : List Arg). Refuses (end_checks (asked_for c.in_ok-command.command args)) c.in_err-check_end.field-0.0)
    (sym c.arguments.ensures.asked) c.in_err-check_end.ensures))

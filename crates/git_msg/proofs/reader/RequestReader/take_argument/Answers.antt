use Rattle.std.proofs.Common.{inl, inr, refl, rules}
use Rattle.std.proofs.lemmas.Result.{err_from_is_err_and}
use Rattle.git_msg.proofs.StepFacts.{completed, end_refused, strange}
use Rattle.git_msg.proofs.reader.RequestReader.take_argument.Goals as goal

pub returns-in-Delim-clause-goes_on : goal.returns-in-Delim-clause-goes_on
returns-in-Delim-clause-goes_on g c = rw c.in-Delim.is (strange _ c.args.self.now _ c.requires (inl refl))

pub returns-in-RespEnd-clause-goes_on : goal.returns-in-RespEnd-clause-goes_on
returns-in-RespEnd-clause-goes_on g c = rw c.in-RespEnd.is (strange _ c.args.self.now _ c.requires (inr refl))

pub returns-in_ok-check_end-in-Flush-clause-goes_on : goal.returns-in_ok-check_end-in-Flush-clause-goes_on
returns-in_ok-check_end-in-Flush-clause-goes_on g c = search (rules, completed)

pub returns-in_err-check_end-in-Flush-clause-goes_on : goal.returns-in_err-check_end-in-Flush-clause-goes_on
returns-in_err-check_end-in-Flush-clause-goes_on g c =
    let p = err_from_is_err_and c.from_residual.result c.from_residual.ensures.1 in
    rw (p.1, p.2, c.in-Flush.is)
    (end_refused _ c.args.self.now c.in_err-check_end-in-Flush.field-0.0 c.requires c.in_err-check_end-in-Flush.ensures)

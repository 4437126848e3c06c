use Rattle.std.proofs.Common.{rules, sym, ◌∙◌}
use Rattle.std.proofs.lemmas.Result.{err_from_is_err_and}
use Rattle.git_msg.proofs.AskedValues.{conveys_value}
use Rattle.git_msg.proofs.FurtherArguments.{as_written}
use Rattle.git_msg.proofs.StepFacts.{unread, kept, unkept}
use Rattle.git_msg.proofs.reader.RequestReader.take_line.Goals as goal

pub returns-in-Err-clause-goes_on : goal.returns-in-Err-clause-goes_on
returns-in-Err-clause-goes_on g c =
    let h = c.in-Err.ensures.argument in
    (unread _ c.args.self.now c.args.bytes.now c.in-Err.kind c.requires (rw (c.command.ensures, c.text-text.ensures) at h))

pub push-requires-clause-value : goal.push-requires-clause-value
push-requires-clause-value g c = search (rules, conveys_value)

pub push-requires-clause-counted : goal.push-requires-clause-counted
push-requires-clause-counted g c = as_written c.args.self.now.offer.format _ _ c.in-Ok.ensures.argument.reads.is_argument.1

pub returns-clause-goes_on : goal.returns-clause-goes_on
returns-clause-goes_on g c =
    let h = c.in-Ok.ensures.argument in
    let keeps = c.in_ok-push.ensures.kept in
    let fits = c.in_ok-push.ensures.fits in
    (kept _ c.args.self.now c.args.bytes.now _ c.requires (rw (c.command.ensures, c.text-text.ensures) at h)
    (sym c.refusal_of.ensures.value ∙ c.in_default.is) c.push.new.self _ (rw c.text-text.ensures at fits) (rw c.text-text.ensures at keeps))

pub returns-in_err-push-clause-goes_on : goal.returns-in_err-push-clause-goes_on
returns-in_err-push-clause-goes_on g c =
    let p = err_from_is_err_and c.from_residual.result c.from_residual.ensures.1 in
    let h = c.in-Ok.ensures.argument in
    let why = c.in_err-push.ensures.refused in
    rw (p.1, p.2)
    (unkept _ c.args.self.now c.args.bytes.now _ c.requires (rw (c.command.ensures, c.text-text.ensures) at h)
    (sym c.refusal_of.ensures.value ∙ c.in_default.is) c.push.new.self _ c.in_err-push.field-0.0 (rw c.text-text.ensures at why)
    c.in_err-push.ensures.unchanged)

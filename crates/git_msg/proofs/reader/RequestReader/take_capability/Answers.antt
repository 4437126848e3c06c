use Rattle.std.proofs.lemmas.Result.{err_from_is_err_and}
use Rattle.git_msg.proofs.StepFacts.{noted, refused, delimited}
use Rattle.git_msg.proofs.reader.RequestReader.take_capability.Goals as goal

pub returns-in_err-note-in-Payload-clause-goes_on : goal.returns-in_err-note-in-Payload-clause-goes_on
returns-in_err-note-in-Payload-clause-goes_on g c barred =
    let p = err_from_is_err_and c.from_residual.result c.from_residual.ensures.1 in
    let h = c.in_err-note-in-Payload.ensures.err in
    rw (p.1, p.2, c.in-Payload.is)
    (refused barred c.args.self.now c.note.new.self c.in-Payload.payload.now c.in_err-note-in-Payload.field-0.0 c.requires
    c.in_err-note-in-Payload.ensures.unchanged (rw c.text.ensures at h))

pub returns-in_ok-note-in-Payload-clause-goes_on : goal.returns-in_ok-note-in-Payload-clause-goes_on
returns-in_ok-note-in-Payload-clause-goes_on g c barred =
    let h = c.in_ok-note-in-Payload.ensures.ok in
    rw c.in-Payload.is (noted barred c.args.self.now c.note.new.self c.in-Payload.payload.now c.requires (rw c.text.ensures at h))

pub returns-in_ok-command-in-Delim-clause-goes_on : goal.returns-in_ok-command-in-Delim-clause-goes_on
returns-in_ok-command-in-Delim-clause-goes_on g c barred =
    rw c.in-Delim.is
    (delimited barred c.args.self.now c.begin.new.self c.in_ok-command-in-Delim.command _ c.requires c.in_ok-command-in-Delim.ensures.command
    c.begin.ensures)

pub returns-in-Flush-clause-goes_on : goal.returns-in-Flush-clause-goes_on
returns-in-Flush-clause-goes_on g c barred = rw c.in-Flush.is (c.take_early_flush.ensures.goes_on barred)

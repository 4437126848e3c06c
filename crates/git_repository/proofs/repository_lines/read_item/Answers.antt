use Rattle.git_repository.proofs.LineContents.{line_read, no_object}
use Rattle.git_repository.proofs.repository_lines.read_item.Goals as goal

pub returns-in-Some : goal.returns-in-Some
returns-in-Some c =
    line_read c.args.format c.args.line.now c.in-Some.text.now c.read_reference_line.result c.in-Some.ensures.rest c.read_reference_line.ensures

pub returns-in_err-id : goal.returns-in_err-id
returns-in_err-id c =
    rw (c.from_residual.ensures) (no_object c.args.format c.args.line.now c.in-Some-after.text.now c.in-Some-after.ensures.rest c.in_err-id.ensures)

use Rattle.git_repository.proofs.LineContents.{refused_has_no_content}
use Rattle.git_repository.proofs.repository_lines.read_reference_line.Goals as goal

pub returns-in-Err : goal.returns-in-Err
returns-in-Err c = refused_has_no_content c.args.format c.args.text.now c.in-Err.field-0 c.in-Err.ensures.line

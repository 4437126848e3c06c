use Rattle.std.proofs.Common.{arith}
use Rattle.git_msg.proofs.ReferenceIds.{begins_with_id, refused_at_its_id}
use Rattle.git_msg.proofs.reference_lines.split_id.Goals as goal

pub returns-in-Ok-clause-parts : goal.returns-in-Ok-clause-parts
returns-in-Ok-clause-parts c =
    begins_with_id c.args.format c.args.text.now _ c.digits-end.result (omega arith) c.if-text-end-ne32.false c.in-Ok.ensures.name

pub returns-in-Err-clause-parts : goal.returns-in-Err-clause-parts
returns-in-Err-clause-parts c =
    refused_at_its_id c.args.format c.args.text.now c.digits-end.result c.digits-end.ensures (omega arith) c.if-text-end-ne32.false
    c.if-text-eq117.false c.in-Err.ensures.name.1

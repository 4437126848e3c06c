use Rattle.git_msg.proofs.ReferenceWords.{id_refused}
use Rattle.git_msg.proofs.reference_lines.search_id.Goals as goal

pub returns-in-Err-clause-parts : goal.returns-in-Err-clause-parts
returns-in-Err-clause-parts c =
    let words = rw c.in_default-Some.is-1 at c.split_at_first.ensures.parts in
    rw c.in-Err.ensures.id.1
    (id_refused c.args.format c.args.text.now c.split_at_first.result.0.now c.in_default-Some.rest.now words c.in-Err.ensures.id.0)

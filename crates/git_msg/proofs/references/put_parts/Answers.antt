use Rattle.git_msg.proofs.ReferenceLines.{reads_back, space}
use Rattle.git_msg.proofs.references.put_parts.Goals as goal
use Rattle.std.proofs.Common.{rules}

pub append-requires-3 : goal.append-requires-3
append-requires-3 c = search (rules, space)

pub returns-clause-reads_back : goal.returns-clause-reads_back
returns-clause-reads_back c = search (rules, reads_back)

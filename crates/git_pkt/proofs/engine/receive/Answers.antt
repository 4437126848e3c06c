use Rattle.std.proofs.Common.{rules}
use Rattle.git_pkt.proofs.engine.receive.Goals as goal

pub returns-clause-bytes : goal.returns-clause-bytes
returns-clause-bytes g c = search rules

pub returns-clause-failed : goal.returns-clause-failed
returns-clause-failed g c = search rules

pub returns-clause-ended : goal.returns-clause-ended
returns-clause-ended g c = search rules

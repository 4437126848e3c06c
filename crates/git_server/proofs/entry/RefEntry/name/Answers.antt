use Rattle.std.proofs.Common.{rules}
use Rattle.git_server.proofs.entry.RefEntry.name.Goals as goal

pub returns-clause-value : goal.returns-clause-value
returns-clause-value c = search rules

pub returns-clause-name : goal.returns-clause-name
returns-clause-name c = search rules

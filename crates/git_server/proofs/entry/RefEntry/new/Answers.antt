use Rattle.std.proofs.Common.{rules}
use Rattle.git_server.proofs.entry.RefEntry.new.Goals as goal

pub returns : goal.returns
returns c = search rules

use Rattle.git_trace.proofs.PartsRead.{line_read}
use Rattle.git_trace.proofs.laws.lines_are_read.Goals as goal

pub returns : goal.returns
returns c = line_read

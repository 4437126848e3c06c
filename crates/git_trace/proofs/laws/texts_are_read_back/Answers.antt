use Rattle.git_trace.proofs.ReadBack.{read_back}
use Rattle.git_trace.proofs.laws.texts_are_read_back.Goals as goal

pub returns : goal.returns
returns c = read_back

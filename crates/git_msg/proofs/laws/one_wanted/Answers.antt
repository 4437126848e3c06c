use Rattle.git_msg.proofs.ResponseLines.{one_wanted}
use Rattle.git_msg.proofs.laws.one_wanted.Goals as goal

pub returns : goal.returns
returns c = one_wanted

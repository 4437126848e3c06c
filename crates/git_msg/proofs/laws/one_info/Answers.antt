use Rattle.git_msg.proofs.ResponseLines.{one_info}
use Rattle.git_msg.proofs.laws.one_info.Goals as goal

pub returns : goal.returns
returns c = one_info

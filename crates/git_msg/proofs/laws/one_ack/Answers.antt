use Rattle.git_msg.proofs.ResponseLines.{one_ack}
use Rattle.git_msg.proofs.laws.one_ack.Goals as goal

pub returns : goal.returns
returns c = one_ack

use Rattle.git_msg.proofs.LineLaws.{one_request}
use Rattle.git_msg.proofs.laws.one_request.Goals as goal

pub returns : goal.returns
returns c = one_request

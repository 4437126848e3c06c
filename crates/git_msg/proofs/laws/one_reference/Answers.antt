use Rattle.git_msg.proofs.ReferenceLaws.{one_reference}
use Rattle.git_msg.proofs.laws.one_reference.Goals as goal

pub returns : goal.returns
returns c = one_reference

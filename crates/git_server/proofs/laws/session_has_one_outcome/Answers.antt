use Rattle.git_server.proofs.OneOutcome.{one_outcome}
use Rattle.git_server.proofs.laws.session_has_one_outcome.Goals as goal

pub returns : goal.returns
returns c = λ s used over given others outcome other h k a b. one_outcome s used over given others outcome other h k a b

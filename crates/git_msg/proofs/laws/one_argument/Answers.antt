use Rattle.git_msg.proofs.Rows.{one_argument}
use Rattle.git_msg.proofs.laws.one_argument.Goals as goal

pub returns : goal.returns
returns c = λ command offer text a b h k. one_argument command offer.format text a b h.is_argument k.is_argument

use Rattle.git_client.proofs.Determined.{one_gift}
use Rattle.git_client.proofs.laws.one_gift.Goals as goal

pub returns : goal.returns
returns c = one_gift

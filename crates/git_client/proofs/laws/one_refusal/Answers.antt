use Rattle.git_client.proofs.Determined.{one_refusal}
use Rattle.git_client.proofs.laws.one_refusal.Goals as goal

pub returns : goal.returns
returns c = one_refusal

use Rattle.git_client.proofs.Determined.{excluded}
use Rattle.git_client.proofs.laws.taken_or_refused.Goals as goal

pub returns : goal.returns
returns c = excluded

use Rattle.git_client.proofs.Calls.{headline}
use Rattle.git_client.proofs.laws.headline.Goals as goal

pub returns : goal.returns
returns g c = headline

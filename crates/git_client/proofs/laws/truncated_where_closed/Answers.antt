use Rattle.git_client.proofs.Truncation.{truncated_where_closed}
use Rattle.git_client.proofs.laws.truncated_where_closed.Goals as goal

pub returns : goal.returns
returns g c = truncated_where_closed

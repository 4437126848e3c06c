use Rattle.git_client.proofs.Alongs.{can_count}
use Rattle.git_client.proofs.laws.counts_stay_below_their_end.Goals as goal

pub returns : goal.returns
returns g c = can_count

use Rattle.git_host.proofs.HostMemoryMoves.{fields_counted}
use Rattle.git_host.proofs.laws.all_fields_are_counted.Goals as goal

pub returns : goal.returns
returns g c = fields_counted

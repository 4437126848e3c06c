use Rattle.git_msg.proofs.laws.all_fields_are_counted.Goals as goal
use Rattle.std.proofs.Common.{rules}

pub returns : goal.returns
returns g c = search rules

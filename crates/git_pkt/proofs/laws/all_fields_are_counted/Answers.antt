use Rattle.std.proofs.Common.{refl}
use Rattle.git_pkt.proofs.laws.all_fields_are_counted.Goals as goal

pub returns : goal.returns
returns c = λ r. refl

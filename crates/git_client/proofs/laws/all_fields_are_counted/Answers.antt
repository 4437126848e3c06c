use Rattle.std.proofs.Common.{refl}
use Rattle.git_client.proofs.laws.all_fields_are_counted.Goals as goal

pub returns : goal.returns
returns g c = λ client. refl

use Rattle.git2show_lib.proofs.KnownChecks.{all_as_known}
use Rattle.git2show_lib.proofs.check_laws.nothing_passes.Goals as goal

pub returns : goal.returns
returns g c = λ t limit result requests responses read given checked none. all_as_known t limit result requests responses read given checked none

use Rattle.git_pkt.proofs.Rests.{fault_longer}
use Rattle.git_pkt.proofs.laws.fault_stays.Goals as goal

pub returns : goal.returns
returns c = fault_longer

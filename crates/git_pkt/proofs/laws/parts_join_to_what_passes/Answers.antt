use Rattle.git_pkt.proofs.BandCalls.{all_goes}
use Rattle.git_pkt.proofs.laws.parts_join_to_what_passes.Goals as goal

pub returns : goal.returns
returns c = all_goes

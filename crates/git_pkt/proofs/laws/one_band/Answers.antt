use Rattle.git_pkt.proofs.Bands.{one_band}
use Rattle.git_pkt.proofs.laws.one_band.Goals as goal

pub returns : goal.returns
returns c = one_band

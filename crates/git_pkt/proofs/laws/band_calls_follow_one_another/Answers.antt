use Rattle.std.proofs.Common.{refl}
use Rattle.git_pkt.proofs.laws.band_calls_follow_one_another.Goals as goal

pub returns : goal.returns
returns c = record {
  none = λ r. refl;
  more = λ old between new call calls fed others. (between, fed, others);
}

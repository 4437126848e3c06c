use Rattle.std.proofs.Common.{refl}
use Rattle.git_msg.proofs.laws.additions_follow_one_another.Goals as goal

pub returns : goal.returns
returns g c = record {
  none = λ request. refl;
  more = λ old next new arg args kept others. (next, kept, others);
}

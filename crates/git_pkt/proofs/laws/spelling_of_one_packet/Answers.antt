use Rattle.std.proofs.Common.{[], refl}
use Rattle.git_pkt.proofs.Spelling.{same_start}
use Rattle.git_pkt.proofs.laws.spelling_of_one_packet.Goals as goal

pub returns : goal.returns
returns c = λ p q s h k. (same_start p q s s [] [] h k refl).packet

use Rattle.git_pkt.proofs.Rests.{fault_shown, shows_at_one_place}
use Rattle.git_pkt.proofs.laws.fault_shows_with_one_byte.Goals as goal

pub returns : goal.returns
returns c = record { somewhere = fault_shown; once = shows_at_one_place }

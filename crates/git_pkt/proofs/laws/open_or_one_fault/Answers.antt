use Rattle.git_pkt.proofs.Rests.{open_or_faulty, not_open_and_faulty, one_fault}
use Rattle.git_pkt.proofs.laws.open_or_one_fault.Goals as goal

pub returns : goal.returns
returns c = record { either = open_or_faulty; never_both = not_open_and_faulty; one = one_fault }

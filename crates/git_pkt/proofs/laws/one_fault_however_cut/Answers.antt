use Rattle.git_pkt.proofs.Cuttings.{announced_by_all, one_by_name}
use Rattle.git_pkt.proofs.laws.one_fault_however_cut.Goals as goal

pub returns : goal.returns
returns c = record {
  announced_by_all = λ r s start bytes given others rest other_rest fault. announced_by_all r s fault start bytes given others rest other_rest;
  one_by_name = λ r s start bytes given others rest other_rest fault other. one_by_name r s fault other start bytes given others rest other_rest;
}

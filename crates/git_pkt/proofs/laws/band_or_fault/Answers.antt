use Rattle.git_pkt.proofs.Bands.{band_or_fault, one_band_fault}
use Rattle.git_pkt.proofs.laws.band_or_fault.Goals as goal

pub returns-clause-never_both : goal.returns-clause-never_both
returns-clause-never_both c = band_or_fault

pub returns-clause-one_name : goal.returns-clause-one_name
returns-clause-one_name c = one_band_fault

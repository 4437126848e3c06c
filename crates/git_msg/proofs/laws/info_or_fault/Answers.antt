use Rattle.git_msg.proofs.ResponseFaults.{info_or_fault, one_info_fault}
use Rattle.git_msg.proofs.laws.info_or_fault.Goals as goal

pub returns-clause-never_both : goal.returns-clause-never_both
returns-clause-never_both c = info_or_fault

pub returns-clause-one_name : goal.returns-clause-one_name
returns-clause-one_name c = one_info_fault

use Rattle.git_msg.proofs.ReferenceFaults.{reference_or_fault, one_reference_fault}
use Rattle.git_msg.proofs.laws.reference_or_fault.Goals as goal

pub returns-clause-never_both : goal.returns-clause-never_both
returns-clause-never_both c = reference_or_fault

pub returns-clause-one : goal.returns-clause-one
returns-clause-one c = one_reference_fault

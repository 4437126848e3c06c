use Rattle.git_msg.proofs.Rows.{argument_or_fault, one_argument_fault}
use Rattle.git_msg.proofs.laws.argument_or_fault.Goals as goal

pub returns-clause-never_both : goal.returns-clause-never_both
returns-clause-never_both c = argument_or_fault

pub returns-clause-one : goal.returns-clause-one
returns-clause-one c = one_argument_fault

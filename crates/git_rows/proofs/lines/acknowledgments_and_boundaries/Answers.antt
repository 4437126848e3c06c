use Rattle.std.proofs.Common.{◌++◌, [], codes, refl}
use Rattle.git_names.specs.declared.object_format.Format.TheVariants.{Sha1}
use Rattle.git_pkt.specs.declared.fault.Kind.TheVariants.{BadObjectName}
use Rattle.git_msg.specs.ResponseLines.{IsAckLine}
use Rattle.git_msg.proofs.ResponseFaults.{ack_or_fault}
use Rattle.git_rows.specs.Worked.{all_a, name_a}
use Rattle.git_rows.proofs.ObjectNamesByComputing.{all_a_is_name}
use Rattle.git_rows.proofs.lines.acknowledgments_and_boundaries.Goals as goal

ack : IsAckLine Sha1 (codes "ACK " ++ all_a) name_a
ack = record { value = all_a; spelled = refl; holds = all_a_is_name }

pub returns-clause-ack : goal.returns-clause-ack
returns-clause-ack c = ack

pub returns-clause-shallow_line : goal.returns-clause-shallow_line
returns-clause-shallow_line c = record { value = all_a; spelled = refl; holds = all_a_is_name }

pub returns-clause-unshallow_line : goal.returns-clause-unshallow_line
returns-clause-unshallow_line c = record { value = all_a; spelled = refl; holds = all_a_is_name }

pub returns-clause-not_refused : goal.returns-clause-not_refused
returns-clause-not_refused c = λ h. ack_or_fault Sha1 (codes "ACK " ++ all_a) name_a BadObjectName ack h

pub returns-clause-not_by_another_name : goal.returns-clause-not_by_another_name
returns-clause-not_by_another_name c = λ h. h.0 [] refl

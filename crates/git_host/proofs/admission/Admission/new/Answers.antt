use Rattle.git_host.proofs.AdmissionMoves.{admission_begins}
use Rattle.git_host.proofs.admission.Admission.new.Goals as goal

pub returns-clause-represents : goal.returns-clause-represents
returns-clause-represents g c =
    admission_begins c.want_at-step.result c.args.format c.args.request.asked c.new.result.items c.want_at-step.ensures c.new.ensures.items

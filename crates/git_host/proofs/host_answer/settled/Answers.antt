use Rattle.git_host.proofs.HostAnswerMoves.{admitted_by}
use Rattle.git_host.proofs.host_answer.settled.Goals as goal

pub returns-in-Ok-clause-same : goal.returns-in-Ok-clause-same
returns-in-Ok-clause-same g c = admitted_by c.in-Admission.admission c.in-Ok.answer c.into_answer.result c.args.answer c.in-Admission.is c.in-Ok.is
    c.into_answer.ensures

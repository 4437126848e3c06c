use Rattle.git_host.proofs.HostAnswerMoves.{want_reported}
use Rattle.git_host.proofs.host_answer.HostAnswer.want.Goals as goal

pub returns : goal.returns
returns g c = want_reported c.in-Admission.admission c.want.new.self c.args.self.now c.args.has c.want.result c.taken_where.result _ c.in-Admission.is
    c.taken_where.ensures c.want.ensures

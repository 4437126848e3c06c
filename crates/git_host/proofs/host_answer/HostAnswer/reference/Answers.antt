use Rattle.git_host.proofs.HostAnswerMoves.{reference_reported}
use Rattle.git_host.proofs.host_answer.HostAnswer.reference.Goals as goal

pub returns : goal.returns
returns g c = reference_reported c.in-References.answer c.reference.new.self c.args.self.now c.args.entry c.reference.result c.reported_as.result
    c.reference.new.hold.items c.in-References.is c.reported_as.ensures c.reference.ensures

use Rattle.git_host.proofs.HostAnswerMoves.{fetch_boundary}
use Rattle.git_host.proofs.host_answer.HostAnswer.boundary_end.Goals as goal

pub returns : goal.returns
returns g c = fetch_boundary c.in-Fetch.answer c.boundary_end.new.self c.args.self.now c.boundary_end.result c.ended_as.result
    c.boundary_end.new.hold.items c.in-Fetch.is c.ended_as.ensures c.boundary_end.ensures.asked c.boundary_end.ensures.reported

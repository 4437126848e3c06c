use Rattle.git_host.proofs.HostAnswerMoves.{fetch_line}
use Rattle.git_host.proofs.host_answer.HostAnswer.boundary.Goals as goal

pub returns : goal.returns
returns g c = fetch_line c.in-Fetch.answer c.boundary.new.self c.args.self.now c.args.line c.boundary.result c.line_as.result c.boundary.new.hold.items
    c.in-Fetch.is c.line_as.ensures c.boundary.ensures.asked c.boundary.ensures.reported

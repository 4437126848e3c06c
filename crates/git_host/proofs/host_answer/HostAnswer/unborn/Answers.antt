use Rattle.std.proofs.Common.{List, subst}
use Rattle.git_host.specs.ReferencesPlaces.{ReportsUnborn}
use Rattle.git_host.proofs.HostAnswerMoves.{unborn_reported}
use Rattle.git_host.proofs.host_answer.HostAnswer.unborn.Goals as goal

pub returns : goal.returns
returns g c = unborn_reported c.in-References.answer c.unborn.new.self c.args.self.now c.args.target c.unborn.result c.reported_as.result
    c.unborn.new.hold.items c.in-References.is c.reported_as.ensures
    (subst (λ (name : List _). ReportsUnborn name c.in-References.answer c.unborn.result c.unborn.new.hold.items c.unborn.new.self) c.as_bytes.ensures.value
    c.unborn.ensures)

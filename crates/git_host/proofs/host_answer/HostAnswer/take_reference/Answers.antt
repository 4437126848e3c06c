use Rattle.git_host.proofs.ReferenceReports.{reference_refused, reference_taken}
use Rattle.git_host.proofs.host_answer.HostAnswer.take_reference.Goals as goal

pub returns-in-Ok-clause-takes : goal.returns-in-Ok-clause-takes
returns-in-Ok-clause-takes g c = reference_taken c.in-References.answer c.take_reference.new.self c.args.self.now c.args.format c.args.name.now c.in-Ok.reported
    c.reported_as.result c.take_reference.result c.in-References.is c.reported_as.ensures c.in-Ok.is c.take_reference.ensures.takes

pub returns-in-Err-clause-takes : goal.returns-in-Err-clause-takes
returns-in-Err-clause-takes g c = reference_refused c.in-References.answer c.take_reference.new.self c.args.self.now c.args.format
    c.args.name.now c.in-Err.fault
    c.take_reference.result c.in-References.is c.in-Err.is c.take_reference.ensures.takes

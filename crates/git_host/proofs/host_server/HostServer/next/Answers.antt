use Rattle.git_host.proofs.HostMoves.{asks_still, ends_still, reads_still}
use Rattle.git_host.proofs.host_server.HostServer.next.Goals as goal

pub returns-in-Reading-clause-steps : goal.returns-in-Reading-clause-steps
returns-in-Reading-clause-steps g c = reads_still c.args.self.now c.in-Reading.is

pub returns-in-Asked-clause-steps : goal.returns-in-Asked-clause-steps
returns-in-Asked-clause-steps g c = asks_still c.args.self.now c.in-Asked.field-0 c.in-Asked.is

pub returns-in-Ended-clause-steps : goal.returns-in-Ended-clause-steps
returns-in-Ended-clause-steps g c = ends_still c.args.self.now c.in-Ended.outcome c.in-Ended.is

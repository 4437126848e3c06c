use Rattle.std.proofs.Common.{◌≡◌, subst, sym}
use Rattle.git_host.specs.HostServer.{credit_in}
use Rattle.git_host.specs.declared.host_server.Phase.{Phase}
use Rattle.git_host.proofs.HostCredits.{first_credit}
use Rattle.git_host.proofs.host_server.HostServer.new.Goals as goal

pub returns-clause-credit : goal.returns-clause-credit
returns-clause-credit g c = subst (λ (p : Phase g.row.A.Denot). credit_in p c.new-stream.result ≡ 0) (sym c.first_phase.ensures)
    (first_credit c.args.advertise c.new-stream.result c.new-stream.ensures.reads c.new-stream.ensures.waits)

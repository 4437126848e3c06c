use Rattle.std.proofs.Common.{arith, ◌≡◌, ◌≤◌, ◌+◌, ◌*◌, ap, length, refl, sym, subst}
use Rattle.git_msg.specs.Memory.{HasRefused}
use Rattle.git_host.specs.HostMemory.{objects_in}
use Rattle.git_host.specs.declared.report.HostReported.TheVariants.{OutOfMemory}
use Rattle.git_host.specs.HostServer.{fault_in}
use Rattle.git_host.specs.declared.host_server.Phase.{Phase}
use Rattle.git_host.specs.declared.host_server.Phase.TheVariants.{Answering}
use Rattle.git_host.proofs.HostAnswering.{answering_at, falls, not_asked, reports_on}
use Rattle.git_host.proofs.HostCredits.{unlent_falls}
use Rattle.git_host.proofs.HostFaults.{quiet_fault, same_fault}
use Rattle.git_host.proofs.LentStreams.{none_lent, on_some}
use Rattle.git_host.proofs.host_server.HostServer.report.Goals as goal

pub returns-in_default-phase-clause-reports : goal.returns-in_default-phase-clause-reports
returns-in_default-phase-clause-reports g c = not_asked c.args.report c.args.self.now c.in_default-phase.not-Answering

pub returns-clause-reports : goal.returns-clause-reports
returns-clause-reports g c =
    let w = c.report-reported.new.hold in
    let lent = on_some c.lend.result c.in-Some.hold _ c.in-Some.is (c.lend.follows.holds w) in
    let few : length w.items ≤ 65520 = omega (arith, c.len.ensures.value, c.len.ensures.fits) in
    reports_on c.args.self.now c.in-Answering.answer c.report-reported.new.self c.in-Answering.is w (c.lend.follows.lender w) lent few c.args.report
    c.report-reported.result c.report-reported.ensures.reports

pub returns-clause-credit : goal.returns-clause-credit
returns-clause-credit g c =
    let w = c.report-reported.new.hold in
    let lent = on_some c.lend.result c.in-Some.hold _ c.in-Some.is (c.lend.follows.holds w) in
    falls c.args.self.now c.in-Answering.answer c.report-reported.new.self c.in-Answering.is w (c.lend.follows.lender w) lent
    (Answering c.report-reported.new.self)

pub returns-in-Failed-clause-memory : goal.returns-in-Failed-clause-memory
returns-in-Failed-clause-memory g c = λ is. absurd (c.fail.ensures.memory is)

pub returns-clause-memory : goal.returns-clause-memory
returns-clause-memory g c =
    subst (λ (p : Phase g.row.A.Denot). c.report-reported.result ≡ OutOfMemory → HasRefused g.A.Memory.refuses (33 * (objects_in p + 1)))
    (sym c.in-Answering.is) c.report-reported.ensures.memory

pub returns-in_default-phase-clause-credit : goal.returns-in_default-phase-clause-credit
returns-in_default-phase-clause-credit g c = omega arith

pub returns-in_default-phase-clause-fault : goal.returns-in_default-phase-clause-fault
returns-in_default-phase-clause-fault g c s used over facts given h = same_fault (fault_in c.args.self.now.phase)

pub returns-in_default-lend-clause-reports : goal.returns-in_default-lend-clause-reports
returns-in_default-lend-clause-reports g c s used over facts given h =
    let stands = answering_at c.args.self.now c.in-Answering.answer c.in-Answering.is s used over facts given h in
    absurd (none_lent c.lend.result c.in_default-lend.is (c.lend.ensures.between.1 stands.between))

pub returns-in_default-lend-clause-credit : goal.returns-in_default-lend-clause-credit
returns-in_default-lend-clause-credit g c =
    unlent_falls c.args.self.now c.in-Answering.answer c.lend.follows.lender-at-none c.lend.result c.in-Answering.is c.in_default-lend.is
    c.lend.follows.holds-at-none

pub returns-in_default-lend-clause-fault : goal.returns-in_default-lend-clause-fault
returns-in_default-lend-clause-fault g c s used over facts given h =
    quiet_fault c.args.self.now.phase (Answering c.in-Answering.answer) (ap fault_in c.in-Answering.is) refl

pub returns-clause-fault : goal.returns-clause-fault
returns-clause-fault g c s used over facts given h =
    quiet_fault c.args.self.now.phase (Answering c.report-reported.new.self) (ap fault_in c.in-Answering.is) refl

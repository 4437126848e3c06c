use Rattle.std.proofs.Common.{arith, ◌≤◌, ap, length, refl, subst, ◌∙◌}
use Rattle.git_pkt.specs.declared.fault.Kind.TheVariants.{PackSource}
use Rattle.git_server.specs.declared.outcome.Outcome.{Outcome}
use Rattle.git_host.specs.HostAnswers.{FailsBy}
use Rattle.git_host.specs.HostServer.{fault_in}
use Rattle.git_host.specs.declared.host_answer.Failing.{Failing}
use Rattle.git_host.specs.declared.host_server.Phase.TheVariants.{Answering, Ended}
use Rattle.git_host.specs.declared.report.HostReported.TheVariants.{NotAsked, Packet as WasGiven}
use Rattle.git_host.specs.declared.report.Report.TheVariants.{Failed}
use Rattle.git_host.proofs.HostAnswering.{answering_at, cut_short, falls, not_asked, reports_on}
use Rattle.git_host.proofs.HostCredits.{unlent_falls}
use Rattle.git_host.proofs.HostFaults.{host_fault, quiet_fault, same_fault}
use Rattle.git_host.proofs.LentStreams.{none_lent, on_some}
use Rattle.git_host.proofs.host_server.HostServer.fail.Goals as goal

pub returns-in_default-clause-reports : goal.returns-in_default-clause-reports
returns-in_default-clause-reports g c = not_asked Failed c.args.self.now c.in_default.not-Answering

pub returns-in-NotAsked-clause-reports : goal.returns-in-NotAsked-clause-reports
returns-in-NotAsked-clause-reports g c =
    let w = c.fail-failing.new.hold in
    let lent = on_some c.lend.result c.in-Some.hold _ c.in-Some.is (c.lend.follows.holds w) in
    let few : length w.items ≤ 65520 = omega (arith, c.len.ensures.value, c.len.ensures.fits) in
    reports_on c.args.self.now c.in-Answering.answer c.fail-failing.new.self c.in-Answering.is w (c.lend.follows.lender w) lent few Failed NotAsked
    (subst (λ (x : Failing). FailsBy c.in-Answering.answer x w.items c.fail-failing.new.self) c.in-NotAsked.is c.fail-failing.ensures)

pub returns-in-Packet-clause-reports : goal.returns-in-Packet-clause-reports
returns-in-Packet-clause-reports g c =
    let w = c.fail-failing.new.hold in
    let lent = on_some c.lend.result c.in-Some.hold _ c.in-Some.is (c.lend.follows.holds w) in
    let few : length w.items ≤ 65520 = omega (arith, c.len.ensures.value, c.len.ensures.fits) in
    reports_on c.args.self.now c.in-Answering.answer c.fail-failing.new.self c.in-Answering.is w (c.lend.follows.lender w) lent few Failed WasGiven
    (subst (λ (x : Failing). FailsBy c.in-Answering.answer x w.items c.fail-failing.new.self) c.in-Packet.is c.fail-failing.ensures)

pub returns-in-CutShort-clause-reports : goal.returns-in-CutShort-clause-reports
returns-in-CutShort-clause-reports g c =
    let w = c.put_error.new.hold in
    let lent = on_some c.lend.result c.in-Some.hold _ c.in-Some.is (c.lend.follows.holds w) in
    let few : length w.items ≤ 65520 = omega (arith, c.len-in-CutShort.ensures.value, c.len-in-CutShort.ensures.fits) in
    let cut = subst (λ (x : Failing). FailsBy c.in-Answering.answer x c.fail-failing.new.hold.items c.fail-failing.new.self) c.in-CutShort.is
    c.fail-failing.ensures in
    cut_short c.args.self.now c.in-Answering.answer c.fail-failing.new.self c.in-Answering.is w (c.lend.follows.lender w) lent few c.move_to.new.self
    (c.move_to.ensures ∙ ap Ended c.ended_by.ensures) cut c.put_error.ensures

pub returns-in-NotAsked-clause-credit : goal.returns-in-NotAsked-clause-credit
returns-in-NotAsked-clause-credit g c =
    let w = c.fail-failing.new.hold in
    let lent = on_some c.lend.result c.in-Some.hold _ c.in-Some.is (c.lend.follows.holds w) in
    falls c.args.self.now c.in-Answering.answer c.fail-failing.new.self c.in-Answering.is w (c.lend.follows.lender w) lent (Answering c.fail-failing.new.self)

pub returns-in-Packet-clause-credit : goal.returns-in-Packet-clause-credit
returns-in-Packet-clause-credit g c =
    let w = c.fail-failing.new.hold in
    let lent = on_some c.lend.result c.in-Some.hold _ c.in-Some.is (c.lend.follows.holds w) in
    falls c.args.self.now c.in-Answering.answer c.fail-failing.new.self c.in-Answering.is w (c.lend.follows.lender w) lent (Answering c.fail-failing.new.self)

pub returns-in_default-clause-credit : goal.returns-in_default-clause-credit
returns-in_default-clause-credit g c = omega arith

pub returns-in_default-clause-fault : goal.returns-in_default-clause-fault
returns-in_default-clause-fault g c s used over facts given h = same_fault (fault_in c.args.self.now.phase)

pub returns-in_default-lend-clause-reports : goal.returns-in_default-lend-clause-reports
returns-in_default-lend-clause-reports g c s used over facts given h =
    let stands = answering_at c.args.self.now c.in-Answering.answer c.in-Answering.is s used over facts given h in
    absurd (none_lent c.lend.result c.in_default-lend.is (c.lend.ensures.between.1 stands.between))

pub returns-in_default-lend-clause-credit : goal.returns-in_default-lend-clause-credit
returns-in_default-lend-clause-credit g c =
    unlent_falls c.args.self.now c.in-Answering.answer c.lend.follows.lender-at-none c.lend.result c.in-Answering.is c.in_default-lend.is
    c.lend.follows.holds-at-none

pub returns-in_default-lend-clause-fault : goal.returns-in_default-lend-clause-fault
returns-in_default-lend-clause-fault g c s used over facts given h =
    quiet_fault c.args.self.now.phase (Answering c.in-Answering.answer) (ap fault_in c.in-Answering.is) refl

pub returns-in-NotAsked-clause-fault : goal.returns-in-NotAsked-clause-fault
returns-in-NotAsked-clause-fault g c s used over facts given h =
    quiet_fault c.args.self.now.phase (Answering c.fail-failing.new.self) (ap fault_in c.in-Answering.is) refl

pub returns-in-Packet-clause-fault : goal.returns-in-Packet-clause-fault
returns-in-Packet-clause-fault g c s used over facts given h =
    quiet_fault c.args.self.now.phase (Answering c.fail-failing.new.self) (ap fault_in c.in-Answering.is) refl

pub returns-in-CutShort-clause-credit : goal.returns-in-CutShort-clause-credit
returns-in-CutShort-clause-credit g c =
    let w = c.put_error.new.hold in
    let lent = on_some c.lend.result c.in-Some.hold _ c.in-Some.is (c.lend.follows.holds w) in
    falls c.args.self.now c.in-Answering.answer c.fail-failing.new.self c.in-Answering.is w (c.lend.follows.lender w) lent c.move_to.new.self

pub returns-in-CutShort-clause-fault : goal.returns-in-CutShort-clause-fault
returns-in-CutShort-clause-fault g c s used over facts given h =
    host_fault c.args.self.now.phase c.move_to.new.self (ap fault_in c.in-Answering.is)
    (record { kind = PackSource; offset = c.args.self.now.flush })
    (ap fault_in c.move_to.ensures ∙ ap (λ (o : Outcome). fault_in {A = g.row.A.Denot} (Ended o)) c.ended_by.ensures) refl

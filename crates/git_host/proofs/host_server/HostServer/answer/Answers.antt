use Rattle.std.proofs.Common.{arith, ◌≤◌, ap, length, refl, subst, ◌∙◌}
use Rattle.git_pkt.specs.declared.fault.Kind.TheVariants.{PackSource}
use Rattle.git_server.specs.declared.outcome.Outcome.{Outcome}
use Rattle.git_host.specs.HostAnswers.{StepsAnswer}
use Rattle.git_host.specs.HostServer.{fault_in}
use Rattle.git_host.specs.declared.host_answer.AnswerStep.{AnswerStep}
use Rattle.git_host.specs.declared.host_server.Phase.TheVariants.{Answering, Ended}
use Rattle.git_host.proofs.HostAnswering.{answering_at, answering_no, falls, steps_broken, steps_need, steps_packet, steps_refused, steps_whole}
use Rattle.git_host.proofs.HostCredits.{unlent_falls}
use Rattle.git_host.proofs.HostFaults.{host_fault, lacking_fault, quiet_fault, same_fault}
use Rattle.git_host.proofs.LentStreams.{none_lent, on_some}
use Rattle.git_host.proofs.host_server.HostServer.answer.Goals as goal

pub returns-in_default-clause-steps : goal.returns-in_default-clause-steps
returns-in_default-clause-steps g c = absurd (answering_no c.args.self.now.phase c.requires c.in_default.not-Answering)

pub returns-in-Packet-clause-steps : goal.returns-in-Packet-clause-steps
returns-in-Packet-clause-steps g c =
    let w = c.next-step.new.hold in
    let lent = on_some c.lend.result c.in-Some.hold _ c.in-Some.is (c.lend.follows.holds w) in
    let few : length w.items ≤ 65520 = omega (arith, c.len.ensures.value, c.len.ensures.fits) in
    steps_packet c.args.self.now c.in-Answering.answer c.next-step.new.self c.in-Answering.is w (c.lend.follows.lender w) lent few c.next-step.result
    c.next-step.ensures.waits c.next-step.ensures.broken c.in-Packet.is c.next-step.ensures.steps

pub returns-in-Need-clause-steps : goal.returns-in-Need-clause-steps
returns-in-Need-clause-steps g c =
    let w = c.next-step.new.hold in
    let lent = on_some c.lend.result c.in-Some.hold _ c.in-Some.is (c.lend.follows.holds w) in
    let few : length w.items ≤ 65520 = omega (arith, c.len.ensures.value, c.len.ensures.fits) in
    steps_need c.args.self.now c.in-Answering.answer c.next-step.new.self c.in-Answering.is w (c.lend.follows.lender w) lent few c.next-step.result
    c.next-step.ensures.waits c.next-step.ensures.broken w.items c.in-Need.need c.in-Need.is c.next-step.ensures.steps

pub returns-in-Whole-clause-steps : goal.returns-in-Whole-clause-steps
returns-in-Whole-clause-steps g c =
    let w = c.next-step.new.hold in
    let lent = on_some c.lend.result c.in-Some.hold _ c.in-Some.is (c.lend.follows.holds w) in
    let few : length w.items ≤ 65520 = omega (arith, c.len.ensures.value, c.len.ensures.fits) in
    steps_whole c.args.self.now c.in-Answering.answer c.next-step.new.self c.in-Answering.is w (c.lend.follows.lender w) lent few c.next-step.result
    c.next-step.ensures.waits c.next-step.ensures.broken w.items c.move_to.new.self c.move_to.ensures c.in-Whole.is c.next-step.ensures.steps

pub returns-in-Broken-clause-steps : goal.returns-in-Broken-clause-steps
returns-in-Broken-clause-steps g c =
    let w = c.next-step.new.hold in
    let lent = on_some c.lend.result c.in-Some.hold _ c.in-Some.is (c.lend.follows.holds w) in
    let few : length w.items ≤ 65520 = omega (arith, c.len.ensures.value, c.len.ensures.fits) in
    steps_broken c.args.self.now c.in-Answering.answer c.next-step.new.self c.in-Answering.is w (c.lend.follows.lender w) lent few c.next-step.result
    c.next-step.ensures.waits w.items c.ended_by-outcome.result c.move_to-in-Broken.new.self c.ended_by-outcome.ensures c.move_to-in-Broken.ensures
    c.in-Broken.is c.next-step.ensures.steps

pub returns-in-Refused-clause-steps : goal.returns-in-Refused-clause-steps
returns-in-Refused-clause-steps g c =
    let w = c.put_error.new.hold in
    let lent = on_some c.lend.result c.in-Some.hold _ c.in-Some.is (c.lend.follows.holds w) in
    let few : length w.items ≤ 65520 = omega (arith, c.len-in-Refused.ensures.value, c.len-in-Refused.ensures.fits) in
    steps_refused c.args.self.now c.in-Answering.answer c.next-step.new.self c.in-Answering.is w (c.lend.follows.lender w) lent few c.next-step.result
    c.next-step.ensures.waits c.next-step.ensures.broken c.next-step.new.hold.items c.in-Refused.kind c.move_to-in-Refused.new.self
    (c.move_to-in-Refused.ensures ∙ ap Ended c.ended_by.ensures) c.in-Refused.is c.next-step.ensures.steps c.put_error.ensures

pub returns-in-Packet-clause-credit : goal.returns-in-Packet-clause-credit
returns-in-Packet-clause-credit g c =
    let w = c.next-step.new.hold in
    let lent = on_some c.lend.result c.in-Some.hold _ c.in-Some.is (c.lend.follows.holds w) in
    falls c.args.self.now c.in-Answering.answer c.next-step.new.self c.in-Answering.is w (c.lend.follows.lender w) lent (Answering c.next-step.new.self)

pub returns-in-Need-clause-credit : goal.returns-in-Need-clause-credit
returns-in-Need-clause-credit g c =
    let w = c.next-step.new.hold in
    let lent = on_some c.lend.result c.in-Some.hold _ c.in-Some.is (c.lend.follows.holds w) in
    falls c.args.self.now c.in-Answering.answer c.next-step.new.self c.in-Answering.is w (c.lend.follows.lender w) lent (Answering c.next-step.new.self)

pub returns-in-Whole-clause-credit : goal.returns-in-Whole-clause-credit
returns-in-Whole-clause-credit g c =
    let w = c.next-step.new.hold in
    let lent = on_some c.lend.result c.in-Some.hold _ c.in-Some.is (c.lend.follows.holds w) in
    falls c.args.self.now c.in-Answering.answer c.next-step.new.self c.in-Answering.is w (c.lend.follows.lender w) lent c.move_to.new.self

pub returns-in-Refused-clause-fault : goal.returns-in-Refused-clause-fault
returns-in-Refused-clause-fault g c s used over reported given h =
    let lacks = subst (λ (x : AnswerStep). StepsAnswer c.in-Answering.answer x c.next-step.new.hold.items c.next-step.new.self) c.in-Refused.is
    c.next-step.ensures.steps in
    let name = lacking_fault s used over reported given c.args.self.now.flush c.args.self.now.stream c.in-Answering.answer c.in-Refused.kind
    (answering_at c.args.self.now c.in-Answering.answer c.in-Answering.is s used over reported given h) lacks in
    host_fault c.args.self.now.phase c.move_to-in-Refused.new.self (ap fault_in c.in-Answering.is)
    (record { kind = c.in-Refused.kind; offset = c.args.self.now.flush })
    (ap fault_in c.move_to-in-Refused.ensures ∙ ap (λ (o : Outcome). fault_in {A = g.row.A.Denot} (Ended o)) c.ended_by.ensures) name

pub returns-in_default-clause-credit : goal.returns-in_default-clause-credit
returns-in_default-clause-credit g c = omega arith

pub returns-in_default-clause-fault : goal.returns-in_default-clause-fault
returns-in_default-clause-fault g c s used over reported given h = same_fault (fault_in c.args.self.now.phase)

pub returns-in_default-lend-clause-steps : goal.returns-in_default-lend-clause-steps
returns-in_default-lend-clause-steps g c s used over reported given h =
    let stands = answering_at c.args.self.now c.in-Answering.answer c.in-Answering.is s used over reported given h in
    absurd (none_lent c.lend.result c.in_default-lend.is (c.lend.ensures.between.1 stands.between))

pub returns-in_default-lend-clause-credit : goal.returns-in_default-lend-clause-credit
returns-in_default-lend-clause-credit g c =
    unlent_falls c.args.self.now c.in-Answering.answer c.lend.follows.lender-at-none c.lend.result c.in-Answering.is c.in_default-lend.is
    c.lend.follows.holds-at-none

pub returns-in_default-lend-clause-fault : goal.returns-in_default-lend-clause-fault
returns-in_default-lend-clause-fault g c s used over reported given h =
    quiet_fault c.args.self.now.phase (Answering c.in-Answering.answer) (ap fault_in c.in-Answering.is) refl

pub returns-in-Packet-clause-fault : goal.returns-in-Packet-clause-fault
returns-in-Packet-clause-fault g c s used over reported given h =
    quiet_fault c.args.self.now.phase (Answering c.next-step.new.self) (ap fault_in c.in-Answering.is) refl

pub returns-in-Need-clause-fault : goal.returns-in-Need-clause-fault
returns-in-Need-clause-fault g c s used over reported given h =
    quiet_fault c.args.self.now.phase (Answering c.next-step.new.self) (ap fault_in c.in-Answering.is) refl

pub returns-in-Whole-clause-fault : goal.returns-in-Whole-clause-fault
returns-in-Whole-clause-fault g c s used over reported given h = quiet_fault c.args.self.now.phase c.move_to.new.self (ap fault_in c.in-Answering.is)
    (ap fault_in c.move_to.ensures)

pub returns-in-Broken-clause-credit : goal.returns-in-Broken-clause-credit
returns-in-Broken-clause-credit g c =
    let w = c.next-step.new.hold in
    let lent = on_some c.lend.result c.in-Some.hold _ c.in-Some.is (c.lend.follows.holds w) in
    falls c.args.self.now c.in-Answering.answer c.next-step.new.self c.in-Answering.is w (c.lend.follows.lender w) lent c.move_to-in-Broken.new.self

pub returns-in-Broken-clause-fault : goal.returns-in-Broken-clause-fault
returns-in-Broken-clause-fault g c s used over reported given h =
    host_fault c.args.self.now.phase c.move_to-in-Broken.new.self (ap fault_in c.in-Answering.is)
    (record { kind = PackSource; offset = c.args.self.now.flush })
    (ap fault_in c.move_to-in-Broken.ensures ∙ ap (λ (o : Outcome). fault_in {A = g.row.A.Denot} (Ended o)) c.ended_by-outcome.ensures) refl

pub returns-in-Refused-clause-credit : goal.returns-in-Refused-clause-credit
returns-in-Refused-clause-credit g c =
    let w = c.put_error.new.hold in
    let lent = on_some c.lend.result c.in-Some.hold _ c.in-Some.is (c.lend.follows.holds w) in
    falls c.args.self.now c.in-Answering.answer c.next-step.new.self c.in-Answering.is w (c.lend.follows.lender w) lent c.move_to-in-Refused.new.self

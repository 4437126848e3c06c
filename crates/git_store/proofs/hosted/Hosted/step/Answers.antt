use Rattle.git_host.specs.declared.report.HostStep.TheVariants as Step
use Rattle.git_store.proofs.StoreReaches.{asked_any, asked_none, asked_packet, began_so, gave_so, rested_so, step_is}
use Rattle.git_store.proofs.StoreWaits.{asked_now, ended_now, keeps_session, needs_now, reads_now}
use Rattle.git_store.proofs.hosted.Hosted.step.Goals as goal

pub invariant_of-self : goal.invariant_of-self
invariant_of-self g c =
    let old = c.args.self.now in
    record {
      session =
          keeps_session old.server c.next.new.self old.session
          (gave_so g.S.Store.begins g.S.Store.replies old.server old.store c.next.new.self
          (step_is c.next.result Step.Packet old.server c.next.new.self c.in-Packet.is c.next.ensures.steps));
    }

pub invariant_of-self-in-NeedInput : goal.invariant_of-self-in-NeedInput
invariant_of-self-in-NeedInput g c =
    let old = c.args.self.now in
    record {
      session =
          keeps_session old.server c.next.new.self old.session
          (rested_so g.S.Store.begins g.S.Store.replies old.server old.store c.next.new.self Step.NeedInput tt
          (step_is c.next.result Step.NeedInput old.server c.next.new.self c.in-NeedInput.is c.next.ensures.steps));
    }

pub invariant_of-self-in-Ended : goal.invariant_of-self-in-Ended
invariant_of-self-in-Ended g c =
    let old = c.args.self.now in
    record {
      session =
          keeps_session old.server c.next.new.self old.session
          (rested_so g.S.Store.begins g.S.Store.replies old.server old.store c.next.new.self (Step.Ended c.in-Ended.field-0) tt
          (step_is c.next.result (Step.Ended c.in-Ended.field-0) old.server c.next.new.self c.in-Ended.is c.next.ensures.steps));
    }

pub begin-requires : goal.begin-requires
begin-requires g c =
    let old = c.args.self.now in
    (asked_now old.server c.next.new.self old.session
    (step_is c.next.result Step.Asked old.server c.next.new.self c.in-Asked.is c.next.ensures.steps)).0

pub invariant_of-self-in-Asked : goal.invariant_of-self-in-Asked
invariant_of-self-in-Asked g c =
    let old = c.args.self.now in
    record {
      session =
          keeps_session old.server c.begin.new.server old.session
          (began_so g.S.Store.begins g.S.Store.replies old.server old.store c.begin.new.server c.next.new.self c.begin.new.store
          (step_is c.next.result Step.Asked old.server c.next.new.self c.in-Asked.is c.next.ensures.steps) c.begin.ensures);
    }

pub answer_need-requires-clause-asked : goal.answer_need-requires-clause-asked
answer_need-requires-clause-asked g c =
    let old = c.args.self.now in
    (needs_now old.server c.next.new.self old.session c.in-Need.need
    (step_is c.next.result (Step.Need c.in-Need.need) old.server c.next.new.self c.in-Need.is c.next.ensures.steps)).0

pub invariant_of-self-in-Need : goal.invariant_of-self-in-Need
invariant_of-self-in-Need g c =
    let old = c.args.self.now in
    record {
      session =
          keeps_session old.server c.answer_need.new.server old.session
          (asked_any g.S.Store.begins g.S.Store.replies old.server old.store c.answer_need.new.server c.next.new.self c.answer_need.new.store c.in-Need.need
          (step_is c.next.result (Step.Need c.in-Need.need) old.server c.next.new.self c.in-Need.is c.next.ensures.steps) c.answer_need.result
          c.answer_need.ensures);
    }

pub returns-in-Packet-clause-steps : goal.returns-in-Packet-clause-steps
returns-in-Packet-clause-steps g c =
    let old = c.args.self.now in
    gave_so g.S.Store.begins g.S.Store.replies old.server old.store c.next.new.self
    (step_is c.next.result Step.Packet old.server c.next.new.self c.in-Packet.is c.next.ensures.steps)

pub returns-in-NeedInput-clause-steps : goal.returns-in-NeedInput-clause-steps
returns-in-NeedInput-clause-steps g c =
    let old = c.args.self.now in
    let steps = step_is c.next.result Step.NeedInput old.server c.next.new.self c.in-NeedInput.is c.next.ensures.steps in (
      rested_so g.S.Store.begins g.S.Store.replies old.server old.store c.next.new.self Step.NeedInput tt steps,
      (reads_now old.server c.next.new.self old.session steps).0,
    )

pub returns-in-Ended-clause-steps : goal.returns-in-Ended-clause-steps
returns-in-Ended-clause-steps g c =
    let old = c.args.self.now in
    let steps = step_is c.next.result (Step.Ended c.in-Ended.field-0) old.server c.next.new.self c.in-Ended.is c.next.ensures.steps in (
      rested_so g.S.Store.begins g.S.Store.replies old.server old.store c.next.new.self (Step.Ended c.in-Ended.field-0) tt steps,
      ended_now old.server c.next.new.self old.session c.in-Ended.field-0 steps,
    )

pub returns-in-Asked-clause-steps : goal.returns-in-Asked-clause-steps
returns-in-Asked-clause-steps g c =
    let old = c.args.self.now in
    began_so g.S.Store.begins g.S.Store.replies old.server old.store c.begin.new.server c.next.new.self c.begin.new.store
    (step_is c.next.result Step.Asked old.server c.next.new.self c.in-Asked.is c.next.ensures.steps) c.begin.ensures

pub returns-then-answer_need-clause-steps : goal.returns-then-answer_need-clause-steps
returns-then-answer_need-clause-steps g c =
    let old = c.args.self.now in
    asked_packet g.S.Store.begins g.S.Store.replies old.server old.store c.answer_need.new.server c.next.new.self c.answer_need.new.store c.in-Need.need
    (step_is c.next.result (Step.Need c.in-Need.need) old.server c.next.new.self c.in-Need.is c.next.ensures.steps) c.answer_need.result
    c.answer_need.ensures c.if-answer_need.true

pub returns-else-answer_need-clause-steps : goal.returns-else-answer_need-clause-steps
returns-else-answer_need-clause-steps g c =
    let old = c.args.self.now in
    asked_none g.S.Store.begins g.S.Store.replies old.server old.store c.answer_need.new.server c.next.new.self c.answer_need.new.store c.in-Need.need
    (step_is c.next.result (Step.Need c.in-Need.need) old.server c.next.new.self c.in-Need.is c.next.ensures.steps) c.answer_need.result
    c.answer_need.ensures c.if-answer_need.false

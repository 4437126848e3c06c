use Rattle.std.proofs.Common.{arith, ap, ◌≡◌, ◌∙◌, ◌<◌, [], List, subst, take, drop, length, ◌-◌, length-drop}
use Rattle.git_pkt.proofs.Credits.{paid_on}
use Rattle.git_pkt.proofs.Chunks.{left_of}
use Rattle.git_client.specs.Events.{EventValue}
use Rattle.git_client.specs.Machine.Client.{Comes, ReceivesOn, LeavesStep}
use Rattle.git_client.specs.declared.client.Outcome.{Outcome}
use Rattle.git_client.specs.declared.client.Outcome.TheVariants.{More}
use Rattle.git_client.proofs.Twice.{comes_then, receives_then, leaves_then}
use Rattle.git_client.proofs.client.Client.advance.Goals as goal

pub loop-used-preserved : goal.loop-used-preserved
loop-used-preserved g c =
    let takes = c.take-step.ensures.takes in
    let new = c.take-step.new.self in
    let rest = take (length c.args.chunk.now - c.loop-used.used) (drop c.loop-used.used c.args.chunk.now) in
    let none : takes.events ≡ [] = subst (λ (o : Outcome). Comes o takes.events c.take-step.result.used rest new) c.in-More.is takes.comes in
    let left : LeavesStep More c.take-step.result.used rest new =
    subst (λ (o : Outcome). LeavesStep o c.take-step.result.used rest new) c.in-More.is takes.leaves in
    record {
      within = omega (arith, c.take-step.ensures.used, c.loop-used.invariant.within);
      waits = left.0;
      any = takes.any ∙ c.loop-used.invariant.any;
      arrives =
          receives_then c.args.self.now c.loop-used.self new c.args.chunk.now c.loop-used.used c.take-step.result.used [] c.loop-used.invariant.within
          c.loop-used.invariant.arrives
          (subst (λ (es : List EventValue). ReceivesOn c.loop-used.self (take c.take-step.result.used rest) es new) none takes.arrives);
      cost = paid_on _ _ _ _ _ _ _ _ (c.loop-used.invariant.paid c.loop-used-test.true) c.loop-used.invariant.cost c.take-step.ensures.cost;
      paid =
          λ more.
          let less : c.take-step.result.used < length rest =
          omega (
            arith,
            more,
            ap length
                (left_of c.args.chunk.now c.loop-used.used c.loop-used.invariant.within),
            length-drop c.loop-used.used c.args.chunk.now,
          ) in
          let step = c.take-step.ensures.paid c.in-More.is less in
          omega (arith, step, c.loop-used.invariant.paid c.loop-used-test.true);
    }

pub returns-in_default : goal.returns-in_default
returns-in_default g c =
    let takes = c.take-step.ensures.takes in
    let new = c.take-step.new.self in
    record {
      used = omega (arith, c.take-step.ensures.used, c.loop-used.invariant.within);
      all = λ e. absurd (c.in_default.not-More e);
      takes = record {
        events = takes.events;
        comes = comes_then c.take-step.result.outcome takes.events c.args.chunk.now c.loop-used.used c.take-step.result.used new
            c.loop-used.invariant.within takes.comes;
        arrives = receives_then c.args.self.now c.loop-used.self new c.args.chunk.now c.loop-used.used c.take-step.result.used takes.events
            c.loop-used.invariant.within c.loop-used.invariant.arrives takes.arrives;
        leaves = leaves_then c.take-step.result.outcome c.args.chunk.now c.loop-used.used c.take-step.result.used new c.in_default.not-More
            c.loop-used.invariant.within takes.leaves;
        any = takes.any ∙ c.loop-used.invariant.any;
        fits = takes.fits;
      };
      cost = paid_on _ _ _ _ _ _ _ _ (c.loop-used.invariant.paid c.loop-used-test.true) c.loop-used.invariant.cost c.take-step.ensures.cost;
    }

use Rattle.std.proofs.Common.{rules, arith, inl, inr, []}
use Rattle.git_host.specs.HostServer.{bytes_of}
use Rattle.git_store.specs.Hosted.{server_of, store_of}
use Rattle.git_store.specs.StoreMoves.{reaches_further, reaches_itself}
use Rattle.git_store.proofs.StoreReaches.{input_step, last_step, no_step, packet_step}
use Rattle.git_store.proofs.hosted.Hosted.go_on.Goals as goal

pub steps-init : goal.steps-init
steps-init g c = record {
  fewer = search rules;
  reaches = reaches_itself g.S.Store.begins g.S.Store.replies (server_of c.args.self.now) (store_of c.args.self.now);
  over = λ e. e;
}

pub steps-preserved : goal.steps-preserved
steps-preserved g c = record {
  fewer = omega (arith, c.step.ensures.left, c.steps.invariant.fewer);
  reaches = reaches_further g.S.Store.begins g.S.Store.replies (server_of c.args.self.now) (store_of c.args.self.now)
      (server_of c.steps.self) (store_of c.steps.self) (server_of c.step.new.self) (store_of c.step.new.self) [] [] [] []
      c.steps.invariant.reaches
      (no_step g.S.Store.begins g.S.Store.replies (server_of c.steps.self) (store_of c.steps.self) (server_of c.step.new.self)
      (store_of c.step.new.self) c.step.result c.in-None.is c.step.ensures.steps);
  over = λ e. c.step.ensures.over (c.steps.invariant.over e);
}

pub returns-in-Some-clause-packet : goal.returns-in-Some-clause-packet
returns-in-Some-clause-packet g c = λ is.
    reaches_further g.S.Store.begins g.S.Store.replies (server_of c.args.self.now) (store_of c.args.self.now)
    (server_of c.steps.self) (store_of c.steps.self) (server_of c.step.new.self) (store_of c.step.new.self) [] [] []
    (bytes_of (server_of c.step.new.self)) c.steps.invariant.reaches
    (packet_step g.S.Store.begins g.S.Store.replies (server_of c.steps.self) (store_of c.steps.self) (server_of c.step.new.self)
    (store_of c.step.new.self) c.step.result c.in-Some.next c.in-Some.is is c.step.ensures.steps)

pub returns-in-Some-clause-needs_input : goal.returns-in-Some-clause-needs_input
returns-in-Some-clause-needs_input g c = λ is.
    let (reaches, reads) = input_step g.S.Store.begins g.S.Store.replies (server_of c.steps.self) (store_of c.steps.self) (server_of c.step.new.self)
    (store_of c.step.new.self) c.step.result c.in-Some.next c.in-Some.is is c.step.ensures.steps in (
      reads,
      reaches_further g.S.Store.begins g.S.Store.replies (server_of c.args.self.now) (store_of c.args.self.now)
          (server_of c.steps.self) (store_of c.steps.self) (server_of c.step.new.self) (store_of c.step.new.self) [] [] [] []
          c.steps.invariant.reaches reaches,
    )

pub returns-in-Some-clause-finished : goal.returns-in-Some-clause-finished
returns-in-Some-clause-finished g c = λ is.
    let (reaches, some) = last_step g.S.Store.begins g.S.Store.replies (server_of c.steps.self) (store_of c.steps.self) (server_of c.step.new.self)
    (store_of c.step.new.self) c.step.result c.in-Some.next c.in-Some.is is c.step.ensures.steps in (
      inl some,
      reaches_further g.S.Store.begins g.S.Store.replies (server_of c.args.self.now) (store_of c.args.self.now)
          (server_of c.steps.self) (store_of c.steps.self) (server_of c.step.new.self) (store_of c.step.new.self) [] [] [] []
          c.steps.invariant.reaches reaches,
    )

pub returns-clause-finished : goal.returns-clause-finished
returns-clause-finished g c = λ is. (inr (omega (arith, c.steps-test.false)), c.steps.invariant.reaches)

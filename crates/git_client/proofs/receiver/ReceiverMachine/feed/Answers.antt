use Rattle.std.proofs.Common.{arith, inl, inr, refl, sym, ◌∙◌}
use Rattle.git_client.specs.Machine.ReceiverStates.{waits_open}
use Rattle.git_client.proofs.ReceiverCalls.{feeds, passes_in, placed, stops_short}
use Rattle.git_client.proofs.receiver.ReceiverMachine.feed.Goals as goal

pub returns-clause-some : goal.returns-clause-some
returns-clause-some g c = λ some.
    elim (c.gather-advance.ensures.some some (rw c.requires.1.given.lines (omega arith))) [
      | inl uses ↦ inl uses
      | inr over ↦ inr (λ k. over)
    ]

pub returns-clause-holds : goal.returns-clause-holds
returns-clause-holds g c = passes_in _ _ _ c.between-self.ensures.lies

pub returns-clause-reaches : goal.returns-clause-reaches
returns-clause-reaches g c = (
  feeds c.args.self.now c.requires.1 _ c.args.from _ c.requires.0 c.requires.1.given.unlent
      (placed c.args.chunk.now c.between-self.result _ _ _ c.gather-advance.ensures.count c.between-self.ensures.bytes c.gather-advance.ensures.received)
      c.gather-advance.ensures.whole (λ fault failed. (c.gather-advance.ensures.shown fault failed).not_the_end),
  refl,
)

pub returns-clause-done : goal.returns-clause-done
returns-clause-done g c = λ k done. absurd (waits_open c.args.self.now c.requires.1 done)

pub returns-clause-short : goal.returns-clause-short
returns-clause-short g c = λ reachable short. stops_short _ _ c.args.chunk.now c.gather-advance.ensures.shown short.1

pub returns-clause-others : goal.returns-clause-others
returns-clause-others g c = λ k other short. absurd (other (short.0 ∙ sym c.requires.0))

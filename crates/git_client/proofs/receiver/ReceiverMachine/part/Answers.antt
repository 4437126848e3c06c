use Rattle.std.proofs.Common.{Bool, subst, sym, ◌∙◌}
use Rattle.git_client.specs.Machine.ReceiverStates.{IsLent}
use Rattle.git_client.proofs.receiver.ReceiverMachine.part.Goals as goal

pub returns-then-self : goal.returns-then-self
returns-then-self g c = λ bytes lends.
    c.as_slice.ensures
    ∙ sym (subst (λ (b : Bool). IsLent b c.args.self.now.lines.now c.args.self.now.passed c.args.fed.now bytes) c.if-self.true lends)

pub lent-requires : goal.lent-requires
lent-requires g c =
    (subst (λ (b : Bool). IsLent b c.args.self.now.lines.now c.args.self.now.passed c.args.fed.now c.requires.0) c.if-self.false c.requires.1).0

pub returns : goal.returns
returns g c = λ bytes lends.
    c.lent.ensures
    ∙ sym (subst (λ (b : Bool). IsLent b c.args.self.now.lines.now c.args.self.now.passed c.args.fed.now bytes) c.if-self.false lends).1

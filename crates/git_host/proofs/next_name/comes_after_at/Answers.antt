use Rattle.std.proofs.Common.{arith, sym, ◌≡◌, ◌<◌}
use Rattle.git_host.proofs.NameOrder.{before_by, front_before, none_before}
use Rattle.git_host.proofs.next_name.comes_after_at.Goals as goal

pub returns-then-same-name : goal.returns-then-same-name
returns-then-same-name c =
    let is : c.args.same ≡ _ = c.if-same-name.true in
    sym (none_before c.args.last.now c.args.name.now (omega (arith, is, c.requires.within)) (λ k lt. c.requires.same k (omega (arith, is))))

pub returns-then-same-last : goal.returns-then-same-last
returns-then-same-last c =
    let is : c.args.same ≡ _ = c.if-same-last.true in
    sym (front_before c.args.last.now c.args.name.now (omega (arith, is, c.if-same-name.false, c.requires.within_other)) (λ k lt.
    c.requires.same k (omega (arith, is))))

pub returns : goal.returns
returns c =
    let within : c.args.same < _ = omega (arith, c.if-same-last.false, c.requires.within) in
    let within_other : c.args.same < _ = omega (arith, c.if-same-name.false, c.requires.within_other) in
    sym (before_by c.args.last.now c.args.name.now c.args.same within within_other c.requires.same (c.requires.differs within within_other))

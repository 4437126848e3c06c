use Rattle.std.proofs.Common.{arith, sym, ◌∙◌}
use Rattle.gitwire.proofs.CopiedLines.{none_copied, uses_on}
use Rattle.gitwire.proofs.checker.close.Goals as goal

pub invariant_of-judge : goal.invariant_of-judge
invariant_of-judge c =
    let none = none_copied c.args.judge.now c.in-Some.stream (sym c.needs.ensures ∙ c.if-not-needs.false) in
    record { within = omega (arith, none) }

pub returns : goal.returns
returns c =
    let needed = sym c.needs.ensures ∙ c.if-not-needs.false in
    let none = none_copied c.args.judge.now c.in-Some.stream needed in
    rw (← c.in-Some.ensures, needed) (record {
      answer_is = c.number-2.ensures;
      uses = uses_on c.in-Some.stream _ c.args.judge.now _ none none (c.close.ensures.carries needed);
      stays_opened = c.close.ensures.stays_opened;
      ended = c.close.ensures.ended needed;
    })

use Rattle.std.proofs.Common.{arith, refl, sym, ◌∙◌}
use Rattle.gitwire.proofs.CopiedLines.{none_copied, uses_on}
use Rattle.gitwire.proofs.checker.feed.Goals as goal

pub invariant_of-judge : goal.invariant_of-judge
invariant_of-judge c =
    let none = none_copied c.args.judge.now c.in-Some.stream (sym c.needs.ensures ∙ c.if-not-needs.false) in
    record { within = omega (arith, none) }

pub returns-then-not-needs : goal.returns-then-not-needs
returns-then-not-needs c = rw (← c.in-Some.ensures, sym c.needs.ensures ∙ c.if-not-needs.true) (c.of-then-not-needs.ensures, refl)

pub returns : goal.returns
returns c =
    let needed = sym c.needs.ensures ∙ c.if-not-needs.false in
    let none = none_copied c.args.judge.now c.in-Some.stream needed in
    rw (← c.in-Some.ensures, needed) (record {
      used = c.feed.result;
      answer_is = c.of_used.ensures;
      within = c.feed.ensures.used;
      uses = uses_on c.in-Some.stream _ c.args.judge.now _ none none c.feed.ensures.carries;
      stays_opened = c.feed.ensures.stays_opened;
      moves = c.feed.ensures.moves needed;
    })

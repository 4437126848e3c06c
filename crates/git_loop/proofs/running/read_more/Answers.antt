use Rattle.std.proofs.Common.{true, refl, Ok, Err}
use Rattle.git_loop.proofs.RunLemmas.{went_closed, went_read}
use Rattle.git_loop.proofs.running.read_more.Goals as goal

pub returns-in_err-fill-clause-went : goal.returns-in_err-fill-clause-went
returns-in_err-fill-clause-went g c = λ held.
    went_read _ g.met.M.Machine.reaches_itself c.args.machine.now c.args.from (Err c.in_err-fill.field-0.0) held c.requires.empty c.requires.unended refl
    c.in_err-fill.ensures.fills c.in_err-fill.ensures.others (g.met.M.Machine.short_needs_none _ _ c.requires.needs)

pub returns-then-branch-clause-went : goal.returns-then-branch-clause-went
returns-then-branch-clause-went g c = λ held.
    went_read _ g.met.M.Machine.reaches_itself c.args.machine.now c.args.from (Ok true) held c.requires.empty c.requires.unended refl
    (rw c.if-branch.true at c.in_ok-fill.ensures.fills) c.in_ok-fill.ensures.others (g.met.M.Machine.short_needs_none _ _ c.requires.needs)

pub returns-clause-went : goal.returns-clause-went
returns-clause-went g c = λ held.
    went_closed _ c.args.from held c.close.ensures.reaches c.requires.empty c.requires.unended
    (rw c.if-branch.false at c.in_ok-fill.ensures.fills) c.in_ok-fill.ensures.others c.close.ensures.done c.close.ensures.short
    (g.met.M.Machine.short_needs_none _ _ c.requires.needs)

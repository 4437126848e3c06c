use Rattle.std.proofs.Common.{arith, inl, sym, ◌∙◌, subst}
use Rattle.git2show_lib.specs.Machine.ShowerStates.{StandsIn, waits_in_time}
use Rattle.git2show_lib.specs.declared.shower.Phase.{Phase}
use Rattle.git2show_lib.specs.declared.shower.Phase.TheVariants.{Stopped}
use Rattle.git2show_lib.proofs.Printing.{reaches_used, used_some}
use Rattle.git2show_lib.proofs.shower.ShowerMachine.feed.Goals as goal

pub returns-in-Some-clause-reaches : goal.returns-in-Some-clause-reaches
returns-in-Some-clause-reaches g c =
    let shown = rw c.in-Some.is at c.gather-gathered.ensures.shown in
    reaches_used g.V.Renderer.view c.args.self.now _ (Stopped _) c.gather-gathered.ensures.gathers c.args.from c.requires.0
    (λ over. (c.gather-gathered.ensures.fault ∙ c.in-Some.is, λ e. absurd (shown.not_the_end e)))

pub returns-in-Some-clause-short : goal.returns-in-Some-clause-short
returns-in-Some-clause-short g c = λ reachable short. let shown = rw c.in-Some.is at c.gather-gathered.ensures.shown in shown.one_more short.1

pub returns-in_default-clause-some : goal.returns-in_default-clause-some
returns-in_default-clause-some g c = λ some. inl (used_some _ c.in_default.is (c.gather-gathered.ensures.some some (rw c.requires.1.all_given (omega arith))))

pub returns-in_default-clause-reaches : goal.returns-in_default-clause-reaches
returns-in_default-clause-reaches g c =
    reaches_used g.V.Renderer.view c.args.self.now _ c.args.self.now.phase c.gather-gathered.ensures.gathers c.args.from c.requires.0
    (λ over. subst (λ (p : Phase). StandsIn p c.gather-gathered.new.packets over) (sym c.requires.1.gathering)
    (c.gather-gathered.ensures.fault ∙ c.in_default.is))

pub returns-in_default-clause-short : goal.returns-in_default-clause-short
returns-in_default-clause-short g c = λ reachable short. absurd (waits_in_time c.args.self.now c.requires.1 short.1)

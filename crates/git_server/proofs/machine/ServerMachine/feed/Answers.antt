use Rattle.std.proofs.Common.{sym, ◌∙◌}
use Rattle.git_server.proofs.Machines.{reaches_used}
use Rattle.git_server.proofs.machine.ServerMachine.feed.Goals as goal

pub returns-clause-reaches : goal.returns-clause-reaches
returns-clause-reaches g c = reaches_used g.R.Repo.state _ _ c.args.from _ c.requires.0 c.feed.ensures.goes

pub returns-clause-short : goal.returns-clause-short
returns-clause-short g c = λ h (first, (fault, is, name)).
    c.feed.ensures.in_time h.s h.used h.over h.given h.running c.requires.1 fault is name

pub returns-clause-others : goal.returns-clause-others
returns-clause-others g c = λ k other short. absurd (other (short.0 ∙ sym c.requires.0))

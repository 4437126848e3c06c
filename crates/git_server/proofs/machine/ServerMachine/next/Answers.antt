use Rattle.std.proofs.Common.{sym, ◌∙◌}
use Rattle.git_server.specs.Machine.Moved.{goes_nowhere}
use Rattle.git_server.proofs.Machines.{gives_part, reads_now, stays_ended, too_long_by_pull}
use Rattle.git_server.proofs.machine.ServerMachine.next.Goals as goal

pub returns-in-NeedInput-clause-needs_input : goal.returns-in-NeedInput-clause-needs_input
returns-in-NeedInput-clause-needs_input g c = λ from is.
    ((cc, reads_now c.args.self.now.phase (sym c.turn.ensures ∙ c.in-NeedInput.is)), goes_nowhere g.R.Repo.state c.args.self.now)

pub returns-in-Finished-clause-finished : goal.returns-in-Finished-clause-finished
returns-in-Finished-clause-finished g c = λ is.
    ((c.in-Finished.field-0, sym c.turn.ensures ∙ c.in-Finished.is), goes_nowhere g.R.Repo.state c.args.self.now)

pub returns-in-Packet-clause-part : goal.returns-in-Packet-clause-part
returns-in-Packet-clause-part g c = λ to is. gives_part g.R.Repo.state _ _ to (cc) c.give.ensures.gives

pub returns-in-Packet-clause-done : goal.returns-in-Packet-clause-done
returns-in-Packet-clause-done g c = λ k. stays_ended _ _ c.give.ensures.gives.outcome

pub returns-in-Packet-clause-short : goal.returns-in-Packet-clause-short
returns-in-Packet-clause-short g c = λ k short. (short.0, too_long_by_pull _ _ c.give.ensures.gives.outcome short.1)

pub returns-in-Packet-clause-to : goal.returns-in-Packet-clause-to
returns-in-Packet-clause-to g c = λ to is. cc

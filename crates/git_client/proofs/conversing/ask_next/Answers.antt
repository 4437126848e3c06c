use Rattle.std.proofs.Common.{Result, true, false, subst}
use Rattle.git_pkt.specs.Machine.Recorded.{inner_of}
use Rattle.git_pkt.specs.declared.fault.RunFault.{RunFault}
use Rattle.git_msg.specs.declared.arguments.Command.{Command}
use Rattle.git_pkt.specs.Streams.{flow, WrittenAs}
use Rattle.git_client.specs.Transcript.{asked_line}
use Rattle.git_client.specs.Machine.RunSteps.{AsksTo}
use Rattle.git_pkt.proofs.EngineLemmas.{written_nothing, at_fault}
use Rattle.git_client.proofs.SendingSteps.{asks_unsaid, asks_stated}
use Rattle.git_client.proofs.conversing.ask_next.Goals as goal

pub returns-in-Err-clause-asked : goal.returns-in-Err-clause-asked
returns-in-Err-clause-asked g c =
    let refusal = c.in-Err.ensures.asked in
    record { refused = refusal.refused; at = refusal.at; stays = refusal.stays; content = written_nothing _; announced = written_nothing _ }

pub returns-in_err-write_asked-clause-asked : goal.returns-in_err-write_asked-clause-asked
returns-in_err-write_asked-clause-asked g c =
    let content = flow (g.W.Output.contents c.args.writer.now) (g.W.Output.contents c.args.writer.now) in
    let announced = flow (g.O.Write.contents (inner_of c.args.out.now)) (g.O.Write.contents (inner_of c.write_asked.new.out)) in
    at_fault c.from_residual.result _ _
    (λ (result : Result (Unit {0}) RunFault). AsksTo result c.args.client.now c.ask.new.self c.args.request content announced)
    c.in_err-write_asked.ensures.fault c.from_residual.ensures.1
    (asks_unsaid _ _ _ _ announced c.in_default.ensures.asked
    (subst (λ (command : Command). WrittenAs true announced (asked_line command)) c.command-command.ensures c.in_err-write_asked.ensures.err))

pub returns-clause-asked : goal.returns-clause-asked
returns-clause-asked g c =
    let announced = flow (g.O.Write.contents (inner_of c.args.out.now)) (g.O.Write.contents (inner_of c.write_asked.new.out)) in
    asks_stated c.send_all.result _ c.ask.new.self _ _ _ announced c.in_default.ensures.asked
    (subst (λ (command : Command). WrittenAs false announced (asked_line command)) c.command-command.ensures c.in_ok-write_asked.ensures.ok)
    c.send_all.ensures.conveys c.send_all.ensures.fault

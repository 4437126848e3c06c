use Rattle.std.proofs.Common.{true, false, None, subst}
use Rattle.std.proofs.lemmas.Result.{err_from_is_err_and}
use Rattle.git_pkt.specs.Machine.Recorded.{inner_of}
use Rattle.git_pkt.specs.Streams.{flow, WrittenAs}
use Rattle.git_msg.specs.declared.arguments.Command.{Command}
use Rattle.git_client.specs.Transcript.{asked_line}
use Rattle.git_client.proofs.SendingSteps.{asks_unsaid}
use Rattle.git2show_lib.proofs.PlayAsking.{asks_server}
use Rattle.git2show_lib.proofs.playing.ask_server.Goals as goal

pub returns-in_err-write_asked-clause-asked : goal.returns-in_err-write_asked-clause-asked
returns-in_err-write_asked-clause-asked g c =
    let announced = flow (g.O.Write.contents (inner_of c.args.out.now)) (g.O.Write.contents (inner_of c.write_asked.new.out)) in
    let met = err_from_is_err_and c.from_residual.result c.from_residual.ensures.1 in
    rw (met.1, met.2, c.in_err-write_asked.ensures.fault)
    (asks_unsaid _ _ _ None announced c.in_default.ensures.asked
    (subst (λ (command : Command). WrittenAs true announced (asked_line command)) c.command-command.ensures c.in_err-write_asked.ensures.err))

pub returns-clause-asked : goal.returns-clause-asked
returns-clause-asked g c =
    let announced = flow (g.O.Write.contents (inner_of c.args.out.now)) (g.O.Write.contents (inner_of c.write_asked.new.out)) in
    asks_server g.R.Repo.state _ c.ask.new.self _ _ _ _ announced c.in_default.ensures.asked
    (subst (λ (command : Command). WrittenAs false announced (asked_line command)) c.command-command.ensures c.in_ok-write_asked.ensures.ok)
    c.announce_all.ensures.announced

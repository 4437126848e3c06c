use Rattle.std.proofs.Common.{◌≡◌, true, sym, ◌∙◌}
use Rattle.std.proofs.lemmas.Result.{err_from_is_err_and}
use Rattle.git_pkt.specs.Machine.Recorded.{inner_of}
use Rattle.git_pkt.specs.Streams.{flow}
use Rattle.git_client.specs.Machine.Client.{wants_input}
use Rattle.git2show_lib.proofs.PlayServers.{MessageReceived, end_stopped, arrived_before, received_with, message_ended, message_stopped}
use Rattle.git2show_lib.proofs.playing.receive_message.Goals as goal
use Rattle.git2show_lib.proofs.playing.receive_message.Goals.{then-wants_input+in_ok-receive_next_packet, else-wants_input}

pub returns-in_err-receive_server-clause-arrived : goal.returns-in_err-receive_server-clause-arrived
returns-in_err-receive_server-clause-arrived g c =
    let met = err_from_is_err_and c.from_residual.result c.from_residual.ensures.1 in
    rw (met.1, met.2)
    (message_stopped g.R.Repo.state c.args.end.now _ _ c.receive_server.new.counts _ _ _ _ c.in_err-receive_server.field-0.0
    c.in_err-receive_server.ensures.arrived)

pub returns-in_err-receive_next_packet-clause-arrived : goal.returns-in_err-receive_next_packet-clause-arrived
returns-in_err-receive_next_packet-clause-arrived g c =
    let waits : wants_input c.receive_server.new.client ≡ true = sym c.wants_input.ensures.value ∙ c.if-wants_input.true in
    let met = err_from_is_err_and c.from_residual-in_err-receive_next_packet.result c.from_residual-in_err-receive_next_packet.ensures.1 in
    rw (met.1, met.2)
    (end_stopped g.R.Repo.state c.args.end.now c.in_ok-receive_server.ensures.arrived waits c.in_err-receive_next_packet.field-0.0 _ _ _ _
    c.in_err-receive_next_packet.ensures.arrived)

pub returns-clause-arrived : goal.returns-clause-arrived
returns-clause-arrived g c =
    let step = c.in_ok-receive_server.ensures.arrived in
    let arrived : MessageReceived g.R.Repo.state c.args.end.now c.args.client.now c.if-wants_input.client c.args.server.now c.receive_server.new.server
    (flow (g.O.Write.contents (inner_of c.args.out.now)) (g.O.Write.contents (inner_of c.if-wants_input.out)))
    (flow (g.P.Output.contents c.args.pack.now) (g.P.Output.contents c.if-wants_input.pack)) = elim c.if-wants_input.branch [
      | then-wants_input+in_ok-receive_next_packet w ↦
          rw (w.client-is, w.out-is, w.pack-is)
          (received_with g.R.Repo.state c.args.end.now step
          (sym c.wants_input.ensures.value ∙ w.if-wants_input.true) _ w.in_ok-receive_next_packet.ensures.arrived)
      | else-wants_input w ↦
          rw (w.client-is, w.out-is, w.pack-is)
          (arrived_before g.R.Repo.state c.args.end.now _ _ _ _ _ _ _ (sym c.wants_input.ensures.value ∙ w.if-wants_input.false) step)
    ] in
    message_ended g.R.Repo.state (g.O.Write.contents (inner_of c.end_message.new.out)) (g.P.Output.contents c.end_message.new.pack) arrived
    c.end_message.ensures.out_kept c.end_message.ensures.pack_kept c.end_message.result c.end_message.new.client c.end_message.ensures.ends

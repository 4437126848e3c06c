-- All packets pulled were written, and nothing has failed since the call began.
use Rattle.std.proofs.Common.{◌≡◌, false, length}
use Rattle.git_pkt.specs.Streams.{flow}
use Rattle.git_client.specs.Machine.Client.{left_to_send}
use Rattle.git_client.proofs.SendingSteps.{SendsSome}
use Rattle.git_client.proofs.conversing.send_all.Given as goal

abbrev pub invariant-loop-packet : goal.invariant-loop-packet
invariant-loop-packet g l = record {
  sound : g.W.Output.failed l.writer ≡ g.W.Output.failed l.fn.writer;
  conveys : SendsSome false l.fn.client l.client (flow (g.W.Output.contents l.fn.writer) (g.W.Output.contents l.writer));
}

-- each turn sends one of the packets that are left
abbrev pub decreases-loop-packet : goal.decreases-loop-packet
decreases-loop-packet g l = length (left_to_send l.client)

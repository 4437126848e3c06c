-- The client waits for input or can ask, and no writer has failed; what the bytes used contain was written.
use Rattle.std.proofs.Common.{◌≡◌, ◌-◌, ◌≤◌, ◌<◌, length, take, true, false, None}
use Rattle.git_pkt.specs.Machine.Recorded.{inner_of, has_failed}
use Rattle.git_pkt.specs.Streams.{flow}
use Rattle.git_client.specs.Machine.Client.{fault_of, can_ask, wants_input}
use Rattle.git_client.specs.Machine.RunSteps.{ReceivesBytes}
use Rattle.git2show_lib.specs.Machine.PlaySteps.{silent}
use Rattle.git2show_lib.proofs.playing.receive_next_packet.Given as goal

abbrev pub invariant-loop-used : goal.invariant-loop-used
invariant-loop-used g l = record {
  within : l.used ≤ length l.packet;
  sound : fault_of l.client ≡ None;
  stands : wants_input l.client ≡ false → can_ask l.client ≡ true;
  moves : wants_input l.client ≡ false → 0 < l.used;
  out_stays : has_failed l.out ≡ false;
  pack_stays : g.P.Output.failed l.pack ≡ false;
  arrives : ReceivesBytes false l.fn.client l.client l.fn.counts l.counts (take l.used l.packet)
      (flow (g.O.Write.contents (inner_of l.fn.out)) (g.O.Write.contents (inner_of l.out)))
      (flow (g.P.Output.contents l.fn.pack) (g.P.Output.contents l.pack)) silent;
}

-- each chunk of some bytes takes some
abbrev pub decreases-loop-used : goal.decreases-loop-used
decreases-loop-used g l = length l.packet - l.used

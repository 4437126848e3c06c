use Rattle.std.proofs.Common.{◌≡◌, ◌-◌, ◌≤◌, ◌<◌, length, take, true, false, None}
use Rattle.git_pkt.specs.Machine.Recorded.{inner_of, has_failed}
use Rattle.git_pkt.specs.Streams.{flow}
use Rattle.git_client.specs.Machine.Client.{fault_of, can_ask, wants_input}
use Rattle.git_client.proofs.WaitingLines.{ReceivedLines}
use Rattle.git_client.proofs.receiving.receive_chunk.Given as goal

-- The client needs input or can ask, and no writer has failed. The contents of the bytes used were written, except for lines that wait.
abbrev pub invariant-loop-used : goal.invariant-loop-used
invariant-loop-used g l = record {
  within : l.used ≤ length l.chunk;
  sound : fault_of l.client ≡ None;
  stands : wants_input l.client ≡ false → can_ask l.client ≡ true;
  moves : wants_input l.client ≡ false → 0 < l.used;
  out_stays : has_failed l.out ≡ false;
  pack_stays : g.P.Output.failed l.pack ≡ false;
  progress_stays : g.E.Output.failed l.progress ≡ false;
  arrives : ReceivedLines l.fn.client l.client l.fn.counts l.counts (take l.used l.chunk)
      (flow (g.O.Write.contents (inner_of l.fn.out)) (g.O.Write.contents (inner_of l.out))) l.lines
      (flow (g.P.Output.contents l.fn.pack) (g.P.Output.contents l.pack))
      (flow (g.E.Output.contents l.fn.progress) (g.E.Output.contents l.progress));
}

abbrev pub decreases-loop-used : goal.decreases-loop-used
decreases-loop-used g l = length l.chunk - l.used

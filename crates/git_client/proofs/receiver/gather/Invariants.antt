use Rattle.std.proofs.Common.{◌≡◌, ◌-◌, ◌≤◌, [], length, take, true, false, None, Some}
use Rattle.git_pkt.specs.Streams.{flow}
use Rattle.git_client.specs.Machine.Client.{can_ask, fault_of, wants_input}
use Rattle.git_client.specs.Machine.RunSteps.{ReceivesBytes}
use Rattle.git_client.proofs.receiver.gather.Given as goal

-- The client needs input or can ask. The lines of the bytes used wait behind the others, and none of the bytes passes.
abbrev pub invariant-loop-used : goal.invariant-loop-used
invariant-loop-used g l = record {
  within : l.used ≤ length l.chunk;
  sound : fault_of l.client ≡ None;
  stands : wants_input l.client ≡ false → can_ask l.client ≡ true;
  begun : l.used ≡ 0 → (l.lines ≡ l.fn.lines) × (wants_input l.client ≡ true);
  received : ReceivesBytes false l.fn.client l.client l.fn.counts l.counts (take l.used l.chunk)
      (flow (Some l.fn.lines) (Some l.lines)) (flow (Some []) (Some [])) (flow (Some []) (Some []));
}

abbrev pub decreases-loop-used : goal.decreases-loop-used
decreases-loop-used g l = length l.chunk - l.used

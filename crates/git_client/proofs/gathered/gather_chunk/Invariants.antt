use Rattle.std.proofs.Common.{◌≡◌, ◌-◌, ◌≤◌, ◌<◌, length, take, true, false, None}
use Rattle.git_client.specs.Machine.Client.{fault_of, can_ask, wants_input}
use Rattle.git_client.specs.Machine.Gathered.{dropped, gathered}
use Rattle.git_client.specs.Machine.RunSteps.{ReceivesBytes}
use Rattle.git_client.proofs.gathered.gather_chunk.Given as goal

-- the client needs input or can ask, and the bytes used were received
abbrev pub invariant-loop-used : goal.invariant-loop-used
invariant-loop-used g l = record {
  within : l.used ≤ length l.chunk;
  sound : fault_of l.client ≡ None;
  stands : wants_input l.client ≡ false → can_ask l.client ≡ true;
  moves : wants_input l.client ≡ false → 0 < l.used;
  grows : 65536 < length l.lines → length l.fn.lines ≤ 65536 → 0 < l.used;
  arrives : ReceivesBytes false l.fn.client l.client l.fn.counts l.counts (take l.used l.chunk) (gathered l.fn.lines l.lines) dropped dropped;
}

abbrev pub decreases-loop-used : goal.decreases-loop-used
decreases-loop-used g l = length l.chunk - l.used

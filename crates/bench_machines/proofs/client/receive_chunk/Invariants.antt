use Rattle.std.proofs.Common.{length, ◌-◌, ◌≤◌}
use Rattle.bench_machines.proofs.client.receive_chunk.Given as goal

abbrev pub invariant-loop-used : goal.invariant-loop-used
invariant-loop-used l = l.used ≤ length l.chunk

abbrev pub decreases-loop-used : goal.decreases-loop-used
decreases-loop-used l = length l.chunk - l.used

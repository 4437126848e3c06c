use Rattle.std.proofs.Common.{◌≡◌, false, length}
use Rattle.git_pkt.specs.Machine.PacketReader.{passes_of}
use Rattle.bench_machines.proofs.packets.count_chunk.Given as goal

abbrev pub invariant-loop-rest : goal.invariant-loop-rest
invariant-loop-rest l = passes_of l.reader ≡ false

abbrev pub decreases-loop-rest : goal.decreases-loop-rest
decreases-loop-rest l = length l.rest

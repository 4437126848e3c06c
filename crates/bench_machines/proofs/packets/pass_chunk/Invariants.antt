use Rattle.std.proofs.Common.{length}
use Rattle.git_pkt.specs.Machine.BandReader.{MayPass}
use Rattle.bench_machines.proofs.packets.pass_chunk.Given as goal

abbrev pub invariant-loop-rest : goal.invariant-loop-rest
invariant-loop-rest l = record { passes : MayPass l.reader }

abbrev pub decreases-loop-rest : goal.decreases-loop-rest
decreases-loop-rest l = length l.rest

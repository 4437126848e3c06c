use Rattle.std.proofs.Common.{◌≡◌, false}
use Rattle.git_pkt.specs.Machine.PacketReader.{passes_of}
use Rattle.bench_machines.proofs.packets.count_input.Given as goal

abbrev pub invariant-loop : goal.invariant-loop
invariant-loop g l = passes_of l.reader ≡ false

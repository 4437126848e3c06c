use Rattle.git_pkt.specs.Machine.BandReader.{MayPass}
use Rattle.bench_machines.proofs.packets.pass_input.Given as goal

abbrev pub invariant-loop : goal.invariant-loop
invariant-loop g l = record { passes : MayPass l.reader }

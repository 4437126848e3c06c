use Rattle.std.proofs.Common.{◌≡◌, ◌*◌, take}
use Rattle.git_names.specs.Steps.{TakesAtMost}
use Rattle.git_pkt.specs.Machine.PacketReader.{held_of}
use Rattle.git_pkt.specs.Machine.PacketReaderSteps.{Moves}
use Rattle.git_pkt.specs.declared.progress.Progress.TheVariants.{Open}
use Rattle.git_pkt.proofs.reader.PacketReader.gather.Given as goal

-- the bytes before this one have been gathered; before the first the hold is as it was
abbrev pub invariant-loop-used : goal.invariant-loop-used
invariant-loop-used l = record {
  moves : Moves l.fn.self (take l.used l.chunk) Open l.self;
  cost : TakesAtMost (6 * l.used) l.fn.steps l.steps;
  keeps : l.used ≡ 0 → held_of l.self ≡ held_of l.fn.self;
}

use Rattle.std.proofs.Common.{◌≡◌, ◌≤◌, ◌+◌, ◌-◌, ◌*◌, [], length, take, None}
use Rattle.git_names.specs.Steps.{TakesAtMost}
use Rattle.git_pkt.specs.Machine.PacketReader.{fault_of, held_of, open_length}
use Rattle.git_pkt.specs.Machine.BandReader.{MayPass, ReadsBandsOn}
use Rattle.git_pkt.proofs.reader.PacketReader.steps_between.Given as goal

-- the packets so far gave nothing
abbrev pub invariant-loop-used : goal.invariant-loop-used
invariant-loop-used l = record {
  within : l.used ≤ length l.chunk;
  sound : fault_of l.self ≡ None;
  passes : MayPass l.self;
  rises : open_length l.self ≤ open_length l.fn.self + l.used;
  keeps : l.used ≡ 0 → held_of l.self ≡ held_of l.fn.self;
  goes : ReadsBandsOn l.fn.self (take l.used l.chunk) [] [] l.self;
  cost : TakesAtMost (8 * l.used) l.fn.steps l.steps;
}

abbrev pub decreases-loop-used : goal.decreases-loop-used
decreases-loop-used l = length l.chunk - l.used

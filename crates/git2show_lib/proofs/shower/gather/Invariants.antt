use Rattle.std.proofs.Common.{◌≡◌, ◌-◌, ◌≤◌, length, take, None, false}
use Rattle.git_pkt.specs.Machine.PacketReader.{fault_of, passes_of}
use Rattle.git2show_lib.specs.Machine.ShowerStates.{Gathers}
use Rattle.git2show_lib.proofs.shower.gather.Given as goal

-- the lines of the packets of what is done of the chunk wait behind the others
abbrev pub invariant-loop-done : goal.invariant-loop-done
invariant-loop-done g l = record {
  within : l.done ≤ length l.chunk;
  begun : l.done ≡ 0 → l.lines.waiting ≡ l.fn.lines.waiting;
  sound : fault_of l.packets ≡ None;
  ready : passes_of l.packets ≡ false;
  gathers : Gathers (g.V.Renderer.view l.renderer) l.fn.tally l.tally l.fn.packets l.packets (take l.done l.chunk) l.fn.lines.waiting l.lines.waiting;
}

abbrev pub decreases-loop-done : goal.decreases-loop-done
decreases-loop-done g l = length l.chunk - l.done

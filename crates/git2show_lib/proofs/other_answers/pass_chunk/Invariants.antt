use Rattle.std.proofs.Common.{length, ◌-◌, ◌++◌, ◌≡◌, ◌≤◌, false, None, ℕ, List, take}
use Rattle.git_pkt.specs.Machine.PacketReader.{fault_of, passes_of}
use Rattle.git2show_lib.specs.Machine.OtherAnswers.{Passes}
use Rattle.git2show_lib.proofs.other_answers.pass_chunk.Given as goal

-- what was used so far passes, and is no end
abbrev pub invariant-loop-used : goal.invariant-loop-used
invariant-loop-used l = record {
  within : l.used ≤ length l.chunk;
  sound : fault_of l.packets ≡ None;
  gathers : passes_of l.packets ≡ false;
  passes : (bytes : List ℕ) → Passes l.ending bytes l.fn.packets → Passes l.ending (bytes ++ take l.used l.chunk) l.packets;
}

abbrev pub decreases-loop-used : goal.decreases-loop-used
decreases-loop-used l = length l.chunk - l.used

use Rattle.std.proofs.Common.{length, ◌-◌, ◌++◌, ◌≤◌, ℕ, List, take}
use Rattle.git2show_lib.specs.Machine.Noting.{Gathers, HasNotedLines}
use Rattle.git2show_lib.proofs.noting.Noting.note.Given as goal

-- the bytes so far are noted
abbrev pub invariant-loop-done : goal.invariant-loop-done
invariant-loop-done g l = record {
  within : l.done ≤ length l.bytes;
  gathers : Gathers l.self;
  notes : (used : List ℕ) → HasNotedLines used l.fn.self → HasNotedLines (used ++ take l.done l.bytes) l.self;
}

abbrev pub decreases-loop-done : goal.decreases-loop-done
decreases-loop-done g l = length l.bytes - l.done

use Rattle.std.proofs.Common.{◌≡◌, ◌≤◌, length, take, ◌-◌}
use Rattle.git_pkt.proofs.band.open_band.Given as goal

abbrev pub invariant-loop-hold : goal.invariant-loop-hold
invariant-loop-hold l = record {
  grown : length l.fn.hold.items ≤ length l.hold.items;
  front : take (length l.fn.hold.items) l.hold.items ≡ l.fn.hold.items;
}

abbrev pub decreases-loop-hold : goal.decreases-loop-hold
decreases-loop-hold l = 65520 - length l.hold.items

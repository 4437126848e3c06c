use Rattle.std.proofs.Common.{◌≡◌, ◌≤◌, ◌-◌, length}
use Rattle.gitwire.proofs.ListedInPlace.{HeldSoFar}
use Rattle.gitwire.proofs.packets_in_place.fill_in_place.Given as goal

abbrev pub invariant-loop-count : goal.invariant-loop-count
invariant-loop-count l = record {
  within : l.used ≤ length l.chunk;
  same_places : length l.packets ≡ length l.fn.packets;
  count_fits : l.count ≤ length l.fn.packets;
  so_far : HeldSoFar l.fn.gatherer.reader l.chunk l.fn.packets l.gatherer.reader l.used l.count l.packets;
}

abbrev pub decreases-loop-count : goal.decreases-loop-count
decreases-loop-count l = length l.initial.packets - l.count

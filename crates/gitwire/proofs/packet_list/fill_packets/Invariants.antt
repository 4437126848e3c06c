use Rattle.std.proofs.Common.{◌≡◌, ◌≤◌, ◌-◌, length}
use Rattle.gitwire.proofs.ListedPackets.{ListedSoFar}
use Rattle.gitwire.proofs.packet_list.fill_packets.Given as goal

abbrev pub invariant-loop-count : goal.invariant-loop-count
invariant-loop-count l = record {
  within : l.used ≤ length l.chunk;
  same_places : length l.packets ≡ length l.fn.packets;
  same_buffer : length l.buffer ≡ length l.fn.buffer;
  count_fits : l.count ≤ length l.fn.packets;
  so_far : ListedSoFar l.fn.gatherer.reader l.chunk l.fn.packets l.fn.buffer l.gatherer.reader l.used l.count l.packets l.buffer;
}

abbrev pub decreases-loop-count : goal.decreases-loop-count
decreases-loop-count l = length l.initial.packets - l.count

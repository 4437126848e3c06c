use Rattle.std.proofs.Common.{◌≡◌, ◌≤◌, ◌<◌, ◌-◌, false, length}
use Rattle.git_client.specs.Machine.Client.{can_ask}
use Rattle.gitwire.proofs.ListedEvents.{ListedSoFar}
use Rattle.gitwire.proofs.event_list.fill_events.Given as goal

abbrev pub invariant-loop-so_far : goal.invariant-loop-so_far
invariant-loop-so_far l = record {
  within : l.so_far.used ≤ length l.chunk;
  same_places : length l.events ≡ length l.fn.events;
  same_buffer : length l.buffer ≡ length l.fn.buffer;
  count_fits : l.so_far.count ≤ length l.fn.events;
  texts_fit : l.so_far.texts ≤ length l.fn.buffer;
  so_far : ListedSoFar l.fn.client l.chunk l.fn.events l.fn.buffer l.client l.so_far.used l.so_far.count l.so_far.texts l.events l.buffer;
  begins : l.so_far.count ≡ 0 → l.so_far.texts ≡ 0;
  turn : 0 < l.so_far.count → can_ask l.client ≡ false;
}

abbrev pub decreases-loop-so_far : goal.decreases-loop-so_far
decreases-loop-so_far l = length l.initial.events - l.so_far.count

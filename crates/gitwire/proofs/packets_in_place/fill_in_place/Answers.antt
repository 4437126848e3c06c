use Rattle.std.proofs.Common.{arith, ◌∙◌, ◌<◌, length, length-set, refl, slice_set}
use Rattle.gitwire.proofs.ListedInPlace.{end_listed_within, held_more, nothing_held, stopped_full_held, stopped_kept, stopped_none_held}
use Rattle.gitwire.proofs.packets_in_place.fill_in_place.Goals as goal

pub loop-count-init : goal.loop-count-init
loop-count-init c = record {
  within = omega arith;
  same_places = refl;
  count_fits = omega arith;
  so_far = nothing_held c.args.gatherer.now.reader c.args.chunk.now c.args.packets.now;
}

pub loop-count-preserved : goal.loop-count-preserved
loop-count-preserved c =
    let before = c.loop-count.invariant in
    let place : c.loop-count.count < length c.args.packets.now = omega (arith, before.same_places, c.loop-count-test.true) in
    let filled = slice_set c.loop-count.packets c.loop-count.count c.in-Ok.packet in
    record {
      within = end_listed_within _ _ _ _ _ c.in-Ok.ensures;
      same_places = length-set c.loop-count.packets c.loop-count.count c.in-Ok.packet ∙ before.same_places;
      count_fits = omega (arith, place);
      so_far =
          held_more c.args.gatherer.now.reader c.loop-count.gatherer.reader c.next_packet.new.gatherer.reader c.args.chunk.now c.args.packets.now
          c.loop-count.used c.loop-count.count c.loop-count.packets filled c.in-Ok.packet c.loop-count.gatherer.gathers place before.so_far c.in-Ok.ensures refl
          (omega (arith, c.if-used-packet.false));
    }

pub returns-then-used-packet : goal.returns-then-used-packet
returns-then-used-packet c =
    let before = c.loop-count.invariant in
    let place : c.loop-count.count < length c.args.packets.now = omega (arith, before.same_places, c.loop-count-test.true) in
    let filled = slice_set c.loop-count.packets c.loop-count.count c.in-Ok.packet in
    stopped_kept c.args.gatherer.now.reader c.loop-count.gatherer.reader c.next_packet.new.gatherer.reader c.args.chunk.now c.args.packets.now
    c.loop-count.used c.loop-count.count c.loop-count.packets filled c.in-Ok.packet c.of_packet.result place before.so_far c.in-Ok.ensures refl
    (omega (arith, c.if-used-packet.true)) c.of_packet.ensures

pub returns-in-Err : goal.returns-in-Err
returns-in-Err c =
    let before = c.loop-count.invariant in
    stopped_none_held c.args.gatherer.now.reader c.loop-count.gatherer.reader c.next_packet.new.gatherer.reader c.args.chunk.now c.args.packets.now
    c.loop-count.used c.loop-count.count c.in-Err.answer c.loop-count.packets before.so_far before.count_fits c.in-Err.ensures

pub returns : goal.returns
returns c =
    let before = c.loop-count.invariant in
    stopped_full_held c.args.gatherer.now.reader c.loop-count.gatherer.reader c.args.chunk.now c.args.packets.now c.loop-count.used
    c.loop-count.count c.of_packet-2.result c.loop-count.packets before.so_far before.within
    (omega (arith, before.same_places, before.count_fits, c.loop-count-test.false)) c.of_packet-2.ensures

use Rattle.std.proofs.Common.{arith, ◌∙◌, ◌<◌, length, length-set, refl, slice_set}
use Rattle.gitwire.proofs.ListedPackets.{end_within, listed_more, nothing_listed, stopped_full, stopped_none}
use Rattle.gitwire.proofs.packet_list.fill_packets.Goals as goal

pub loop-count-init : goal.loop-count-init
loop-count-init c = record {
  within = omega arith;
  same_places = refl;
  same_buffer = refl;
  count_fits = omega arith;
  so_far = nothing_listed c.args.gatherer.now.reader c.args.chunk.now c.args.packets.now c.args.buffer.now;
}

pub loop-count-preserved : goal.loop-count-preserved
loop-count-preserved c =
    let before = c.loop-count.invariant in
    let place : c.loop-count.count < length c.args.packets.now = omega (arith, before.same_places, c.loop-count-test.true) in
    let filled = slice_set c.loop-count.packets c.loop-count.count c.in-Ok.packet in
    record {
      within = end_within _ _ _ _ _ _ _ c.in-Ok.ensures;
      same_places = length-set c.loop-count.packets c.loop-count.count c.in-Ok.packet ∙ before.same_places;
      same_buffer = omega (arith, c.next.auto.buffer, before.same_buffer);
      count_fits = omega (arith, place);
      so_far =
          listed_more c.args.gatherer.now.reader c.loop-count.gatherer.reader c.next.new.gatherer.reader c.args.chunk.now c.args.packets.now c.args.buffer.now
          c.loop-count.used c.loop-count.count c.loop-count.packets filled c.loop-count.buffer c.next.new.buffer c.in-Ok.packet c.loop-count.gatherer.gathers
          c.requires.suffices place before.so_far c.in-Ok.ensures refl;
    }

pub returns-in-Err : goal.returns-in-Err
returns-in-Err c =
    let before = c.loop-count.invariant in
    stopped_none c.args.gatherer.now.reader c.loop-count.gatherer.reader c.next.new.gatherer.reader c.args.chunk.now c.args.packets.now c.args.buffer.now
    c.loop-count.used c.loop-count.count c.in-Err.answer c.loop-count.packets c.loop-count.buffer c.next.new.buffer before.so_far before.count_fits
    c.in-Err.ensures

pub returns : goal.returns
returns c =
    let before = c.loop-count.invariant in
    stopped_full c.args.gatherer.now.reader c.loop-count.gatherer.reader c.args.chunk.now c.args.packets.now c.args.buffer.now c.loop-count.used
    c.loop-count.count c.of_packet.result c.loop-count.packets c.loop-count.buffer before.so_far before.within
    (omega (arith, before.same_places, before.count_fits, c.loop-count-test.false)) c.of_packet.ensures

use Rattle.std.proofs.Common.{rules, arith, refl}
use Rattle.git2show_lib.proofs.Printing.{announces_by, fed_failed, fed_packet, gathers_none, left_length}
use Rattle.git2show_lib.proofs.shower.gather.Goals as goal

pub returns-in-Failed-clause-gathers : goal.returns-in-Failed-clause-gathers
returns-in-Failed-clause-gathers g c =
    fed_failed _ c.loop-done.done c.loop-done.invariant.within c.feed-fed.follows.holds-at-none c.loop-done.invariant.gathers _ c.in-Failed.is

pub loop-done-init : goal.loop-done-init
loop-done-init g c = record {
  within = search rules;
  begun = λ e. refl;
  sound = search rules;
  ready = search rules;
  gathers = gathers_none c.args.tally.now c.args.packets.now c.args.lines.now.waiting;
}

pub loop-done-preserved : goal.loop-done-preserved
loop-done-preserved g c =
    let at = c.loop-done.invariant in
    let feeds = c.feed-fed.follows.holds-at-none in
    let rest = left_length c.args.chunk.now c.loop-done.done at.within feeds in
    let announces = announces_by c.args.chunk.now c.loop-done.done at.within feeds _ c.in-Packet.is in
    record {
      within = omega (arith, c.feed-fed.ensures.used, rest, at.within);
      begun = λ e. absurd (omega (arith, e, announces.0));
      sound = announces.1;
      ready = feeds.gathers;
      gathers = fed_packet _ c.loop-done.done at.within feeds at.gathers _ _ c.in-Packet.is c.put.ensures.put c.put.ensures.tally;
    }

use Rattle.std.proofs.Common.{refl, subst, take}
use Rattle.git_pkt.specs.Machine.PacketReader.{ShownByFeed}
use Rattle.git_pkt.specs.declared.fault.Fault.{Fault}
use Rattle.git_msg.proofs.StreamSteps.{feeds_with}
use Rattle.git2show_lib.proofs.JudgedSteps.{refused_read}
use Rattle.git2show_lib.proofs.judged_requests.JudgedRequests.step.Goals as goal

pub returns-in-Failed-clause-steps : goal.returns-in-Failed-clause-steps
returns-in-Failed-clause-steps g c =
    let old = c.args.self.now in
    let chunk = c.args.chunk.now in
    let fed = c.feed-fed.result in
    let fault = c.in-Failed.fault in
    let feeds = feeds_with old.packets c.feed-fed.follows.lender-at-none chunk fed _ c.in-Failed.is c.feed-fed.follows.holds-at-none in
    let shown = c.feed-fed.follows.holds-at-none.news fault c.requires.ready.sound c.in-Failed.is in
    record {
      reads = λ used asked h.
          refused_read old _ (take fed.used chunk) c.requires.ready.judging.wants refl refl used asked h fault refl feeds.announces shown.not_the_end
          feeds.reads;
      leaves = refl;
      news = λ other is. subst (λ (f : Fault). ShownByFeed f fed.used chunk) (cc) shown;
      by = refl;
      limit = refl;
    }

pub returns-in-Packet-clause-steps : goal.returns-in-Packet-clause-steps
returns-in-Packet-clause-steps g c =
    let old = c.args.self.now in
    let chunk = c.args.chunk.now in
    let fed = c.feed-fed.result in
    let feeds = feeds_with old.packets c.feed-fed.follows.lender-at-none chunk fed _ c.in-Packet.is c.feed-fed.follows.holds-at-none in
    c.take-got.ensures old.packets _ chunk fed.used feeds.announces.0 (record {
      reads = feeds.reads;
      gathers = c.feed-fed.follows.holds-at-none.gathers;
      sound = feeds.announces.1;
      shut = feeds.announces.2;
    })

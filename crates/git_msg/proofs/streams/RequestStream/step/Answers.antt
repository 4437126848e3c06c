use Rattle.std.proofs.Common.{rules, refl, subst, take, ◌≤◌}
use Rattle.git_pkt.specs.Packets.{seen}
use Rattle.git_pkt.specs.Splits.{Given}
use Rattle.git_pkt.specs.Machine.PacketReader.{ShownByFeed, bytes_held}
use Rattle.git_pkt.specs.declared.fault.Fault.{Fault}
use Rattle.git_msg.specs.Machine.RequestStreams.{limit_of}
use Rattle.git_msg.specs.Machine.StreamStages.{fault_in}
use Rattle.git_msg.specs.Memory.{FaultNeedsRefusal}
use Rattle.git_msg.proofs.StreamSteps.{open_read, feeds_with, packet_counts, packet_leaves, packet_news, packet_read, refused_read}
use Rattle.git_msg.proofs.ReaderRuns.{fault_of_bytes}
use Rattle.git_msg.proofs.StreamSteps.{needed_behind, reading, some_taken_behind, sound_behind}
use Rattle.git_msg.proofs.streams.RequestStream.step.Goals as goal

pub invariant_of-self-in-Packet : goal.invariant_of-self-in-Packet
invariant_of-self-in-Packet g c =
    let old = c.args.self.now in
    let new = c.take-got.new.self in
    let given : Given = record { packet = seen c.in-Packet.packet; offset = c.in-Packet.offset } in
    let got = c.take-got.result in
    let stage = c.stage_after-self.result in
    let feeds = feeds_with old.packets c.feed-fed.follows.lender-at-none c.args.chunk.now c.feed-fed.result _ c.in-Packet.is c.feed-fed.follows.holds-at-none in
    record {
      sound = λ on. feeds.announces.1;
      open_ended = sound_behind old new given got stage c.requires.waits c.take-got.ensures.brings c.stage_after-self.ensures;
      gathers = c.feed-fed.follows.holds-at-none.gathers;
      taken = some_taken_behind old new given got stage c.requires.waits c.take-got.ensures.brings c.stage_after-self.ensures;
    }

pub returns-in-Packet-clause-steps : goal.returns-in-Packet-clause-steps
returns-in-Packet-clause-steps g c =
    let old = c.args.self.now in
    let chunk = c.args.chunk.now in
    let fed = c.feed-fed.result in
    let given : Given = record { packet = seen c.in-Packet.packet; offset = c.in-Packet.offset } in
    let got = c.take-got.result in
    let brings = c.take-got.ensures.brings in
    let feeds = feeds_with old.packets c.feed-fed.follows.lender-at-none chunk fed _ c.in-Packet.is c.feed-fed.follows.holds-at-none in
    record {
      reads = λ used asked h.
          packet_read old _ (take fed.used chunk) c.requires.waits brings.offer brings.limit used asked h given got brings c.stage_after-self.ensures
          feeds.announces.1 feeds.announces.2 feeds.reads;
      counts = λ used asked h.
          packet_counts old _ (take fed.used chunk) c.requires.waits brings.offer brings.limit used asked h given got brings
          feeds.announces.1 feeds.announces.2 feeds.reads;
      leaves = packet_leaves old _ given fed.used chunk c.requires.waits feeds.announces.0 feeds.announces.2 got brings c.stage_after-self.ensures;
      news = λ fault none is.
          packet_news old c.take-got.new.self given got c.stage_after-self.result c.requires.waits brings c.stage_after-self.ensures
          fault fed.used chunk is;
      offer = brings.offer;
      limit = brings.limit;
    }

pub returns-in-Failed-clause-steps : goal.returns-in-Failed-clause-steps
returns-in-Failed-clause-steps g c =
    let old = c.args.self.now in
    let chunk = c.args.chunk.now in
    let fed = c.feed-fed.result in
    let fault = c.in-Failed.fault in
    let feeds = feeds_with old.packets c.feed-fed.follows.lender-at-none chunk fed _ c.in-Failed.is c.feed-fed.follows.holds-at-none in
    let news = c.feed-fed.follows.holds-at-none.news fault (old.sound c.requires.waits) c.in-Failed.is in
    record {
      reads = λ used asked h.
          refused_read old _ (take fed.used chunk) c.requires.waits refl refl used asked h fault refl feeds.announces news.not_the_end feeds.reads;
      counts = λ used asked h. tt;
      leaves = refl;
      news = λ other none is. subst (λ (f : Fault). ShownByFeed f fed.used chunk) (cc) news;
      offer = refl;
      limit = refl;
    }

pub returns-in-More-clause-steps : goal.returns-in-More-clause-steps
returns-in-More-clause-steps g c = search (rules, feeds_with, open_read)

pub returns-in-More-clause-memory : goal.returns-in-More-clause-memory
returns-in-More-clause-memory g c =
    reading (λ stage. FaultNeedsRefusal g.A.Memory.refuses (limit_of c.args.self.now) (fault_in stage)) tt tt c.args.self.now.stage c.requires.waits

pub returns-in-Packet-clause-memory : goal.returns-in-Packet-clause-memory
returns-in-Packet-clause-memory g c =
    needed_behind g.A.Memory.refuses (limit_of c.args.self.now) c.take-got.result c.stage_after-self.result c.stage_after-self.ensures
    (c.take-got.ensures.memory (c.args.self.now.open_ended c.requires.waits))

pub returns-in-Failed-clause-memory : goal.returns-in-Failed-clause-memory
returns-in-Failed-clause-memory g c =
    let old = c.args.self.now in
    let feeds = feeds_with old.packets c.feed-fed.follows.lender-at-none c.args.chunk.now c.feed-fed.result _ c.in-Failed.is c.feed-fed.follows.holds-at-none in
    let fits : bytes_held old.packets ≤ 65520 = rw c.hold.ensures.value at c.hold.ensures.fits in
    λ name.
    absurd (fault_of_bytes old.packets c.feed-fed.follows.lender-at-none _ _ (old.sound c.requires.waits) old.gathers fits feeds.reads
    c.in-Failed.fault feeds.announces name)

pub returns-in-More-clause-moves : goal.returns-in-More-clause-moves
returns-in-More-clause-moves g c = search (rules, feeds_with)

pub returns-in-Packet-clause-moves : goal.returns-in-Packet-clause-moves
returns-in-Packet-clause-moves g c = search (rules, feeds_with)

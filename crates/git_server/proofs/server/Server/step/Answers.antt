use Rattle.std.proofs.Common.{Option, refl, subst, sym, take}
use Rattle.git_pkt.specs.Packets.{seen}
use Rattle.git_pkt.specs.Splits.{Given}
use Rattle.git_pkt.specs.declared.fault.Kind.{Kind}
use Rattle.git_msg.specs.Arguments.{Arg}
use Rattle.git_msg.specs.Machine.RequestReader.{Brings}
use Rattle.git_server.specs.Machine.LatePacks.{state_with}
use Rattle.git_server.proofs.LatePacks.{barred_same}
use Rattle.git_server.proofs.Going.{goes_open, goes_packet, goes_refused, no_outcome, open_in_time, packet_in_time, fault_in_time}
use Rattle.git_msg.proofs.StreamSteps.{feeds_with}
use Rattle.git_server.proofs.RefusedMemory.{memory_after_bytes, memory_after_packet}
use Rattle.git_server.proofs.server.Server.step.Goals as goal

pub returns-in-More-clause-goes : goal.returns-in-More-clause-goes
returns-in-More-clause-goes g c =
    let old = c.args.self.now in
    let chunk = c.args.chunk.now in
    let fed = c.feed-fed.result in
    let feeds = feeds_with old.reader c.feed-fed.follows.lender-at-none chunk fed _ c.in-More.is c.feed-fed.follows.holds-at-none in
    goes_open g.R.Repo.state old _ (take fed.used chunk) c.requires.wants (record { offer = refl; repo = refl; reads = feeds.reads })
    refl refl feeds.announces.1

pub returns-in-Packet-clause-goes : goal.returns-in-Packet-clause-goes
returns-in-Packet-clause-goes g c =
    let old = c.args.self.now in
    let chunk = c.args.chunk.now in
    let fed = c.feed-fed.result in
    let feeds = feeds_with old.reader c.feed-fed.follows.lender-at-none chunk fed _ c.in-Packet.is c.feed-fed.follows.holds-at-none in
    goes_packet g.R.Repo.state old _ (take fed.used chunk)
    (record { packet = seen c.in-Packet.packet; offset = c.in-Packet.offset }) _ c.take-brought.ensures.covered c.requires.wants
    (record { offer = refl; repo = refl; reads = feeds.reads }) c.take-brought.ensures.brings c.following.ensures feeds.announces.1 feeds.announces.2

pub returns-in-Failed-clause-goes : goal.returns-in-Failed-clause-goes
returns-in-Failed-clause-goes g c =
    let old = c.args.self.now in
    let chunk = c.args.chunk.now in
    let fed = c.feed-fed.result in
    let feeds = feeds_with old.reader c.feed-fed.follows.lender-at-none chunk fed _ c.in-Failed.is c.feed-fed.follows.holds-at-none in
    goes_refused g.R.Repo.state old _ (take fed.used chunk) c.in-Failed.fault c.requires.wants (record { offer = refl; repo = refl; reads = feeds.reads })
    refl feeds.announces
    (λ none. (c.feed-fed.follows.holds-at-none.news c.in-Failed.fault none c.in-Failed.is).not_the_end) c.refusal.ensures

pub returns-in-More-clause-unread : goal.returns-in-More-clause-unread
returns-in-More-clause-unread g c packs =
    let old = c.args.self.now in
    let chunk = c.args.chunk.now in
    let fed = c.feed-fed.result in
    let feeds = feeds_with old.reader c.feed-fed.follows.lender-at-none chunk fed _ c.in-More.is c.feed-fed.follows.holds-at-none in
    goes_open (state_with packs g.R.Repo.state) old _ (take fed.used chunk) c.requires.wants (record { offer = refl; repo = refl; reads = feeds.reads })
    refl refl feeds.announces.1

pub returns-in-Packet-clause-unread : goal.returns-in-Packet-clause-unread
returns-in-Packet-clause-unread g c packs =
    let old = c.args.self.now in
    let chunk = c.args.chunk.now in
    let fed = c.feed-fed.result in
    let feeds = feeds_with old.reader c.feed-fed.follows.lender-at-none chunk fed _ c.in-Packet.is c.feed-fed.follows.holds-at-none in
    let repo = (g.R.Repo.state old.repo).answers in
    let packet : Given = record { packet = seen c.in-Packet.packet; offset = c.in-Packet.offset } in
    goes_packet (state_with packs g.R.Repo.state) old _ (take fed.used chunk) packet _ c.take-brought.ensures.covered c.requires.wants
    (record { offer = refl; repo = refl; reads = feeds.reads })
    (subst (λ (bars : Arg → Option Kind). Brings bars old.requests packet c.take-brought.result c.take-brought.new.self)
    (sym (barred_same repo packs)) c.take-brought.ensures.brings) c.following.ensures feeds.announces.1 feeds.announces.2

pub returns-in-Failed-clause-unread : goal.returns-in-Failed-clause-unread
returns-in-Failed-clause-unread g c packs =
    let old = c.args.self.now in
    let chunk = c.args.chunk.now in
    let fed = c.feed-fed.result in
    let feeds = feeds_with old.reader c.feed-fed.follows.lender-at-none chunk fed _ c.in-Failed.is c.feed-fed.follows.holds-at-none in
    goes_refused (state_with packs g.R.Repo.state) old _ (take fed.used chunk) c.in-Failed.fault c.requires.wants
    (record { offer = refl; repo = refl; reads = feeds.reads }) refl feeds.announces
    (λ none. (c.feed-fed.follows.holds-at-none.news c.in-Failed.fault none c.in-Failed.is).not_the_end) c.refusal.ensures

pub returns-in-More-clause-in_time : goal.returns-in-More-clause-in_time
returns-in-More-clause-in_time g c = open_in_time g.R.Repo.state c.args.self.now c.feed-fed.result.used c.args.chunk.now

pub returns-in-Packet-clause-in_time : goal.returns-in-Packet-clause-in_time
returns-in-Packet-clause-in_time g c =
    packet_in_time g.R.Repo.state c.args.self.now c.feed-fed.result.used c.args.chunk.now
    (record { packet = seen c.in-Packet.packet; offset = c.in-Packet.offset })
    _ _ c.following.result c.take-brought.ensures.brings c.following.ensures

pub returns-in-Failed-clause-in_time : goal.returns-in-Failed-clause-in_time
returns-in-Failed-clause-in_time g c =
    let feeds = c.feed-fed.follows.holds-at-none in
    fault_in_time g.R.Repo.state c.args.self.now c.feed-fed.result.used c.args.chunk.now c.in-Failed.fault c.refusal.result c.refusal.ensures
    (λ none. feeds.news c.in-Failed.fault none c.in-Failed.is)

pub returns-in-More-clause-memory : goal.returns-in-More-clause-memory
returns-in-More-clause-memory g c = λ s so_far over before r ends. ends

pub returns-in-Packet-clause-memory : goal.returns-in-Packet-clause-memory
returns-in-Packet-clause-memory g c =
    memory_after_packet g.R.Repo.state g.A.Memory.refuses c.args.self.now c.requires.wants c.following.result c.in-Packet.offset c.take-brought.result
    (c.take-brought.ensures.memory (c.args.self.now.sound (no_outcome c.args.self.now.phase c.requires.wants))) c.following.ensures

pub returns-in-Failed-clause-memory : goal.returns-in-Failed-clause-memory
returns-in-Failed-clause-memory g c =
    let old = c.args.self.now in
    let fed = c.feed-fed.result in
    let feeds = feeds_with old.reader c.feed-fed.follows.lender-at-none c.args.chunk.now fed _ c.in-Failed.is c.feed-fed.follows.holds-at-none in
    memory_after_bytes g.R.Repo.state g.A.Memory.refuses old c.requires.wants c.refusal.result (take fed.used c.args.chunk.now)
    c.feed-fed.follows.lender-at-none c.in-Failed.fault feeds.reads feeds.announces c.refusal.ensures

use Rattle.std.proofs.Common.{◌++◌, take}
use Rattle.git_pkt.specs.Packets.{seen}
use Rattle.git_pkt.specs.Splits.{Given}
use Rattle.git_msg.proofs.StreamSteps.{feeds_with}
use Rattle.git2show_lib.proofs.ChunkParts.{left_bytes, within_further}
use Rattle.git2show_lib.proofs.AdvertisementNoted.{noted_further, noted_packet}
use Rattle.git2show_lib.proofs.noting.Noting.note.Goals as goal

pub loop-done-preserved : goal.loop-done-preserved
loop-done-preserved g c =
    let mid = c.loop-done.self in
    let done = c.loop-done.done in
    let bytes = c.args.bytes.now in
    let fed = c.feed-fed.result in
    let was = c.loop-done.invariant in
    let given : Given = record { packet = seen c.in-Packet.packet; offset = c.in-Packet.field-1 } in
    let feeds = feeds_with mid.packets c.feed-fed.follows.lender-at-none _ fed _ c.in-Packet.is c.feed-fed.follows.holds-at-none in
    record {
      within = within_further bytes done was.within fed.used c.feed-fed.ensures.used;
      gathers = c.feed-fed.follows.holds-at-none.gathers;
      notes = λ used h.
          noted_further _ bytes done fed.used was.within used
          (noted_packet mid _ (used ++ take done bytes) (take fed.used (left_bytes bytes done)) given feeds.reads
          c.note_packet-self.ensures (was.notes used h));
    }

use Rattle.std.proofs.Common.{arith, ◌≡◌, ◌+◌, ◌∙◌, sym, true, false, List, ℕ}
use Rattle.git_pkt.specs.Packets.{seen}
use Rattle.git_pkt.specs.Splits.{Given}
use Rattle.git_msg.proofs.StreamSteps.{feeds_with}
use Rattle.git2show_lib.specs.Others.{is_last}
use Rattle.git2show_lib.specs.Machine.OtherAnswers.{BreaksOff, HasPassed, Passes}
use Rattle.git2show_lib.proofs.ChunkParts.{shown_further, within_further}
use Rattle.git2show_lib.proofs.PassedAnswers.{breaks_there, passed_whole, passes_further, passes_packet}
use Rattle.git2show_lib.proofs.other_answers.pass_chunk.Goals as goal

pub returns-in-Failed : goal.returns-in-Failed
returns-in-Failed c =
    let old = c.args.packets.now in
    let mid = c.loop-used.packets in
    let new = c.feed-fed.follows.lender-at-none in
    let chunk = c.args.chunk.now in
    let done = c.loop-used.used in
    let fed = c.feed-fed.result in
    let was = c.loop-used.invariant in
    let fault = c.in-Failed.fault in
    let feeds = feeds_with mid new _ fed _ c.in-Failed.is c.feed-fed.follows.holds-at-none in
    let shown = c.feed-fed.follows.holds-at-none.news fault was.sound c.in-Failed.is in
    record {
      used = done + fed.used;
      breaks =
          passes_further c.args.ending old mid chunk done was.within was.passes (λ (l : List ℕ). BreaksOff c.args.ending l fault) fed.used
          (λ bytes h. breaks_there c.args.ending mid new bytes _ h fault feeds.reads feeds.announces shown.not_the_end);
      shown = shown_further chunk done was.within fault fed.used shown;
    }

pub returns-then-is_last : goal.returns-then-is_last
returns-then-is_last c =
    let old = c.args.packets.now in
    let mid = c.loop-used.packets in
    let new = c.feed-fed.follows.lender-at-none in
    let chunk = c.args.chunk.now in
    let done = c.loop-used.used in
    let fed = c.feed-fed.result in
    let was = c.loop-used.invariant in
    let given : Given = record { packet = seen c.in-Packet.packet; offset = c.in-Packet.field-1 } in
    let feeds = feeds_with mid new _ fed _ c.in-Packet.is c.feed-fed.follows.holds-at-none in
    let last : is_last c.args.ending given.packet ≡ true = sym c.is_last.ensures ∙ c.if-is_last.true in
    record {
      some = omega (arith, feeds.announces.0);
      within = within_further chunk done was.within fed.used c.feed-fed.ensures.used;
      passes =
          passes_further c.args.ending old mid chunk done was.within was.passes (λ (l : List ℕ). HasPassed c.args.ending l new) fed.used
          (λ bytes h. passed_whole c.args.ending mid new bytes _ h given feeds.reads last feeds.announces.1 feeds.announces.2);
    }

pub loop-used-preserved : goal.loop-used-preserved
loop-used-preserved c =
    let old = c.args.packets.now in
    let mid = c.loop-used.packets in
    let new = c.feed-fed.follows.lender-at-none in
    let chunk = c.args.chunk.now in
    let done = c.loop-used.used in
    let fed = c.feed-fed.result in
    let was = c.loop-used.invariant in
    let given : Given = record { packet = seen c.in-Packet.packet; offset = c.in-Packet.field-1 } in
    let feeds = feeds_with mid new _ fed _ c.in-Packet.is c.feed-fed.follows.holds-at-none in
    let other : is_last c.args.ending given.packet ≡ false = sym c.is_last.ensures ∙ c.if-is_last.false in
    record {
      within = within_further chunk done was.within fed.used c.feed-fed.ensures.used;
      sound = feeds.announces.1;
      gathers = c.feed-fed.follows.holds-at-none.gathers;
      passes =
          passes_further c.args.ending old mid chunk done was.within was.passes (λ (l : List ℕ). Passes c.args.ending l new) fed.used
          (λ bytes h. passes_packet c.args.ending mid new bytes _ h given feeds.reads other);
    }

use Rattle.std.proofs.Common.{◌≡◌, false}
use Rattle.git_pkt.specs.Machine.PacketReader.{passes_of}
use Rattle.worked_conversations.proofs.packets.feed.Given as goal

abbrev pub invariant-loop : goal.invariant-loop
invariant-loop l = passes_of l.reader ≡ false

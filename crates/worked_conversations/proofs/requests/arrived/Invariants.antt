use Rattle.std.proofs.Common.{◌≡◌, false}
use Rattle.git_pkt.specs.Machine.PacketReader.{passes_of}
use Rattle.worked_conversations.proofs.requests.arrived.Given as goal

abbrev pub invariant-loop-chunk : goal.invariant-loop-chunk
invariant-loop-chunk l = passes_of l.packets ≡ false

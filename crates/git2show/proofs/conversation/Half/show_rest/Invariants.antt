use Rattle.std.proofs.Common.{◌≡◌, false}
use Rattle.git_pkt.specs.Machine.PacketReader.{passes_of}
use Rattle.git2show.proofs.conversation.Half.show_rest.Given as goal

abbrev pub invariant-loop : goal.invariant-loop
invariant-loop g l = passes_of l.self.packets ≡ false

use Rattle.std.proofs.Common.{◌≡◌, false}
use Rattle.git_pkt.specs.Machine.PacketReader.{passes_of}
use Rattle.git2show.proofs.conversation.show_messages.Given as goal

abbrev pub invariant-loop : goal.invariant-loop
invariant-loop g l = record { requests : passes_of l.requests.packets ≡ false; responses : passes_of l.responses.packets ≡ false }

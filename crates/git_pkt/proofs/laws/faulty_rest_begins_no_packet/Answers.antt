use Rattle.git_pkt.proofs.Completions.{refused_begins_none}
use Rattle.git_pkt.proofs.Rests.{fault_longer}
use Rattle.std.proofs.Common.{◌++◌}
use Rattle.git_pkt.proofs.laws.faulty_rest_begins_no_packet.Goals as goal

pub returns : goal.returns
returns c = λ p rest more fault h.
    refused_begins_none p (rest ++ more) fault.kind fault.offset (fault_longer p rest more fault h)

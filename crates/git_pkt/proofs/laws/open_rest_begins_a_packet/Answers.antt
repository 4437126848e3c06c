use Rattle.git_pkt.proofs.Completions.{open_goes_on}
use Rattle.git_pkt.proofs.laws.open_rest_begins_a_packet.Goals as goal

pub returns : goal.returns
returns c = λ rest open_rest none.
    let on = open_goes_on rest open_rest none in
    (on.packet, on.more, on.some, on.spells)

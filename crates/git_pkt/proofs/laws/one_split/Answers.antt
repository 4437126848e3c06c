use Rattle.git_pkt.proofs.Streams.{one_split}
use Rattle.git_pkt.proofs.laws.one_split.Goals as goal

pub returns : goal.returns
returns c = λ start bytes given others rest other_rest h k.
    let same = one_split start bytes given others rest other_rest h.spelled k.spelled h.ends k.ends in
    (same.packets, same.rest_is)

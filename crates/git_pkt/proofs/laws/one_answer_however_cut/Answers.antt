use Rattle.std.proofs.Common.{◌∙◌, sym}
use Rattle.git_pkt.proofs.Cuttings.{same_split, one_rest}
use Rattle.git_pkt.proofs.laws.one_answer_however_cut.Goals as goal

pub returns : goal.returns
returns c = record {
  packets = λ r s start bytes given others rest other_rest h k. (same_split r s start bytes given others rest other_rest h k).packets;
  remains = λ r s start bytes given others rest other_rest h k. (same_split r s start bytes given others rest other_rest h k).rest_is;
  position = λ r s start bytes given others rest other_rest h k. h.position ∙ sym k.position;
  held = λ r s start bytes given others rest other_rest h k. one_rest r s start bytes given others rest other_rest h k;
}

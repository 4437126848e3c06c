use Rattle.std.proofs.Common.{refl}
use Rattle.git_pkt.proofs.Texts.{text_loses_a_line_end, text_of-line_end, text_of-other}
use Rattle.git_pkt.proofs.laws.text_lacks_one_line_end.Goals as goal

pub returns : goal.returns
returns c = record { one = text_loses_a_line_end; taken_off = text_of-line_end; else_kept = text_of-other; nothing = refl }

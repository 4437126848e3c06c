use Rattle.std.proofs.Common.{codes, refl, arith}
use Rattle.git_names.specs.Digits.{digit_value}
use Rattle.git_pkt.specs.Digits.{digits_value}
use Rattle.git_pkt.proofs.Spelling.{none_begins_partial}
use Rattle.git_rows.proofs.OpenRests.{open_by}
use Rattle.git_rows.proofs.packets.packet_cut_short.Goals as goal

pub returns-clause-left : goal.returns-clause-left
unfolding digit_value digits_value
returns-clause-left c = record { spelled = refl; ends = none_begins_partial (codes "0009ab") (omega arith) (omega arith) }

pub returns-clause-still_open : goal.returns-clause-still_open
unfolding digit_value digits_value
returns-clause-still_open c = open_by (codes "0009ab") refl

pub returns-clause-truncated : goal.returns-clause-truncated
unfolding digit_value digits_value
returns-clause-truncated c = (open_by (codes "0009ab") refl, omega arith, refl)

pub returns-clause-not_where_it_is_refused : goal.returns-clause-not_where_it_is_refused
unfolding digit_value digits_value
returns-clause-not_where_it_is_refused c = λ h. (h.0.allowed (omega arith)).0 refl

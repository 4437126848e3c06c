use Rattle.std.proofs.Common.{codes, refl, arith}
use Rattle.git_names.specs.Digits.{digit_value}
use Rattle.git_pkt.specs.Digits.{digits_value}
use Rattle.git_pkt.proofs.Spelling.{none_begins_refused}
use Rattle.git_rows.proofs.OpenRests.{digits_by}
use Rattle.git_rows.proofs.packets.length_of_three.Goals as goal

pub returns-clause-left : goal.returns-clause-left
unfolding digit_value digits_value
returns-clause-left c = record { spelled = refl; ends = none_begins_refused (codes "0003") (λ allowed. allowed.0 refl) }

pub returns-clause-refused : goal.returns-clause-refused
unfolding digit_value digits_value
returns-clause-refused c = (digits_by (codes "0003") (omega arith) (omega arith) (omega arith) (omega arith) (omega arith), refl, refl)

pub returns-clause-four_not_refused : goal.returns-clause-four_not_refused
unfolding digit_value digits_value
returns-clause-four_not_refused c = λ h. let three = h.1 in omega arith

pub returns-clause-not_by_another_name : goal.returns-clause-not_by_another_name
unfolding digit_value digits_value
returns-clause-not_by_another_name c = λ h. let more = h.1 in omega arith

pub returns-clause-not_open : goal.returns-clause-not_open
unfolding digit_value digits_value
returns-clause-not_open c = λ h. (h.allowed (omega arith)).0 refl

pub returns-clause-not_shown_later : goal.returns-clause-not_shown_later
unfolding digit_value digits_value
returns-clause-not_shown_later c = λ h. ((h 4 (omega arith)).allowed (omega arith)).0 refl

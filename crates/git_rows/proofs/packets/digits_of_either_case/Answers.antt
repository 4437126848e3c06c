use Rattle.std.proofs.Common.{codes, refl, [], arith}
use Rattle.git_names.specs.Digits.{digit_value}
use Rattle.git_pkt.specs.Digits.{digits_value}
use Rattle.git_pkt.specs.Packets.{payload}
use Rattle.git_pkt.proofs.Spelling.{none_begins_bad, none_begins_nothing}
use Rattle.git_rows.specs.Worked.{at}
use Rattle.git_rows.proofs.OpenRests.{bad_digit_by}
use Rattle.git_rows.proofs.WrittenPackets.{no_first, spells}
use Rattle.git_rows.proofs.packets.digits_of_either_case.Goals as goal

pub returns-clause-upper : goal.returns-clause-upper
unfolding digit_value digits_value
returns-clause-upper c = record {
  spelled = (
    codes "000Aabcdef",
    [],
    refl,
    refl,
    spells (payload (codes "abcdef")) (codes "000Aabcdef") (omega arith) (omega arith) (omega arith) (omega arith) (omega arith) refl refl (omega arith),
    refl,
  );
  ends = none_begins_nothing;
}

pub returns-clause-lower : goal.returns-clause-lower
unfolding digit_value digits_value
returns-clause-lower c = record {
  spelled = (
    codes "000aABCDEF",
    [],
    refl,
    refl,
    spells (payload (codes "ABCDEF")) (codes "000aABCDEF") (omega arith) (omega arith) (omega arith) (omega arith) (omega arith) refl refl (omega arith),
    refl,
  );
  ends = none_begins_nothing;
}

pub returns-clause-no_other_letter : goal.returns-clause-no_other_letter
unfolding digit_value
returns-clause-no_other_letter c =
    no_first 0 (codes "000gabcdef") (at 0 (payload (codes "abcdef"))) [] []
    (none_begins_bad (codes "000gabcdef") 3 (bad_digit_by (codes "000gabcdef") 3 (omega arith) (omega arith) refl (λ h. omega arith)))

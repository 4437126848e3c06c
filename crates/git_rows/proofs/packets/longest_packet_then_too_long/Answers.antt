use Rattle.std.proofs.Common.{◌≡◌, ◌+◌, codes, refl, ◌++◌, arith, length}
use Rattle.git_names.specs.Digits.{digit_value}
use Rattle.git_pkt.specs.Digits.{digits_value}
use Rattle.git_pkt.specs.Packets.{payload}
use Rattle.git_pkt.proofs.Spelling.{none_begins_refused}
use Rattle.git_rows.proofs.OpenRests.{digits_by, shows_by}
use Rattle.git_rows.proofs.WrittenPackets.{spells}
use Rattle.git_rows.proofs.packets.longest_packet_then_too_long.Goals as goal

pub returns-clause-taken : goal.returns-clause-taken
unfolding digit_value digits_value
returns-clause-taken c = λ bytes long.
    record {
      spelled = (
        codes "fff0" ++ bytes,
        codes "fff1",
        refl,
        refl,
        spells (payload bytes) (codes "fff0" ++ bytes) (omega arith) (omega arith) (omega arith) (omega arith) (omega arith)
            (let field : 65520 ≡ length bytes + 4 = omega arith in field) refl (omega arith),
        refl,
      );
      ends = none_begins_refused (codes "fff1") (λ allowed. let most = allowed.1 in omega arith);
    }

pub returns-clause-refused : goal.returns-clause-refused
unfolding digit_value digits_value
returns-clause-refused c = (digits_by (codes "fff1") (omega arith) (omega arith) (omega arith) (omega arith) (omega arith), omega arith, refl)

pub returns-clause-shown_by_the_fourth_digit : goal.returns-clause-shown_by_the_fourth_digit
unfolding digit_value digits_value
returns-clause-shown_by_the_fourth_digit c = shows_by (codes "fff1") refl

pub returns-clause-longest_not_refused : goal.returns-clause-longest_not_refused
unfolding digit_value digits_value
returns-clause-longest_not_refused c = λ h. let more = h.1 in omega arith

pub returns-clause-not_a_longer_one : goal.returns-clause-not_a_longer_one
returns-clause-not_a_longer_one c = λ bytes long h. let fits = h.spelled.4.fits in omega (arith, long, fits)

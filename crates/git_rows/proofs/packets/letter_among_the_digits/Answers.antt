use Rattle.std.proofs.Common.{◌≡◌, codes, arith, subst}
use Rattle.git_names.specs.Digits.{digit_value}
use Rattle.git_pkt.specs.Faults.{FirstBadDigit}
use Rattle.git_rows.proofs.OpenRests.{stops_at_letter}
use Rattle.git_rows.proofs.packets.letter_among_the_digits.Goals as goal

pub returns-clause-refused : goal.returns-clause-refused
returns-clause-refused c = stops_at_letter

pub returns-clause-digits_not_refused : goal.returns-clause-digits_not_refused
unfolding digit_value
returns-clause-digits_not_refused c = λ h.
    let place : h.0 ≡ 2 = omega (arith, h.2) in
    let bad = subst (FirstBadDigit (codes "00a")) place h.1 in
    bad.bad (omega arith)

pub returns-clause-not_open : goal.returns-clause-not_open
unfolding digit_value
returns-clause-not_open c = λ h. let digit = h.digits 2 (omega arith) (omega arith) in omega arith

use Rattle.std.proofs.Common.{◌≡◌, ◌+◌, ◌-◌, sym, arith}
use Rattle.git_names.proofs.HexDigits.{lower_digit-letter, lower_digit-number}
use Rattle.git_names.proofs.digits.lower_of.Goals as goal

pub returns-then-value-lt10 : goal.returns-then-value-lt10
returns-then-value-lt10 c = sym (lower_digit-number c.args.value c.if-value-lt10.true)

pub returns-else-value-lt10 : goal.returns-else-value-lt10
returns-else-value-lt10 c =
    let same : c.args.value - 10 + 10 ≡ c.args.value = omega arith in
    rw same at (sym (lower_digit-letter (c.args.value - 10) (omega arith)))

use Rattle.std.proofs.Common.{rules, ◌^◌}
use Rattle.git_msg.proofs.DigitValues.{all_read, too_large}
use Rattle.git_msg.proofs.numbers.read_number.Goals as goal

pub returns-then-number-value : goal.returns-then-number-value
returns-then-number-value c =
    too_large c.args.text.now c.loop-digit.digit-index c.loop-digit.number (2 ^ 64) (search rules) c.loop-digit.invariant.value (search rules)

pub returns : goal.returns
returns c = all_read c.args.text.now c.loop-digit.number (search rules) (search rules) (search rules)

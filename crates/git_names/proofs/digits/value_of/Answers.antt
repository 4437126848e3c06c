use Rattle.std.proofs.Common.{arith}
use Rattle.git_names.specs.Digits.{digit_value}
use Rattle.git_names.proofs.digits.value_of.Goals as goal

pub returns-then-byte : goal.returns-then-byte
unfolding digit_value
returns-then-byte c = record { value = grind arith }

pub returns-then-byte-2 : goal.returns-then-byte-2
unfolding digit_value
returns-then-byte-2 c = record { value = grind arith }

pub returns-then-byte-3 : goal.returns-then-byte-3
unfolding digit_value
returns-then-byte-3 c = record { value = grind arith }

pub returns-else-byte-3 : goal.returns-else-byte-3
unfolding digit_value
returns-else-byte-3 c = record { value = grind arith }

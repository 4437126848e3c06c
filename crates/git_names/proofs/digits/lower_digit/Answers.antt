use Rattle.std.proofs.Common.{refl}
use Rattle.git_names.specs.Digits.{lower_digit}
use Rattle.git_names.proofs.digits.lower_digit.Goals as goal

pub returns : goal.returns
unfolding lower_digit
returns c = refl

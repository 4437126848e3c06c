use Rattle.std.proofs.Common.{refl}
use Rattle.std.specs.Fmt.{digits}
use Rattle.git_names.specs.Digits.{lower_digit}
use Rattle.hex.specs.Hex.{encode_with}
use Rattle.git_rows.proofs.sessions.answers_about_references_and_objects.Goals as goal

pub returns-clause-targets_and_peeled : goal.returns-clause-targets_and_peeled
unfolding encode_with lower_digit
returns-clause-targets_and_peeled c = refl

pub returns-clause-below_a_prefix : goal.returns-clause-below_a_prefix
unfolding encode_with lower_digit
returns-clause-below_a_prefix c = refl

pub returns-clause-sizes : goal.returns-clause-sizes
unfolding digits encode_with lower_digit
returns-clause-sizes c = refl

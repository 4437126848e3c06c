-- The table is held against the definition at each of the 256 bytes, by computing.
use Rattle.std.proofs.Common.{◌≡◌, ℕ, ◌==◌, Bool, true, List, slice_index, refl, arith}
use Rattle.std.proofs.lemmas.Bool.{eqb-true}
use Rattle.git_names.specs.declared.digits.TheConstants.{DIGIT_VALUES}
use Rattle.git_names.specs.Digits.{digit_value}
use Rattle.git_names.proofs.Tables.{all_pass, all_pass-at}
use Rattle.git_names.proofs.digits.digit_value.Goals as goal

-- the place of a byte has its value
abbrev has_value : List ℕ → ℕ → Bool
has_value table b = slice_index table b == digit_value b

all_have_value : all_pass (has_value DIGIT_VALUES) 256 ≡ true
unfolding digit_value
all_have_value = refl

pub returns : goal.returns
returns c = record { value = eqb-true _ _ (all_pass-at (has_value DIGIT_VALUES) 256 c.args.byte all_have_value (omega arith)) }

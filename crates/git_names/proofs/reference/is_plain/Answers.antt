-- The table is held against the rules at each of the 256 bytes, by computing.
use Rattle.std.proofs.Common.{◌≡◌, ℕ, ◌<◌, ◌==◌, Bool, true, false, not, ◌||◌, List, slice_index, refl, arith}
use Rattle.git_names.specs.declared.reference.TheConstants.{PLAIN_BYTES}
use Rattle.git_names.specs.NextByte.{IsPlain}
use Rattle.git_names.proofs.PlainBytes.{is_plain, IsPlain-is_plain}
use Rattle.git_names.proofs.Tables.{all_pass, all_pass-at}
use Rattle.git_names.proofs.reference.is_plain.Goals as goal

-- the place of a byte has a dot, or no rule is about it
abbrev dot_or_plain : List ℕ → ℕ → Bool
dot_or_plain table b = slice_index table b == 46 || is_plain b

from_either : (dot plain : Bool) → (dot || plain) ≡ true → not dot ≡ true → plain ≡ true
from_either true plain h other = cc other
from_either false plain h other = h

from_table : (table : List ℕ) (b : ℕ) → b < 256 → all_pass (dot_or_plain table) 256 ≡ true → not (slice_index table b == 46) ≡ true → IsPlain b
from_table table b lt h other =
    IsPlain-is_plain b (from_either (slice_index table b == 46) (is_plain b) (all_pass-at (dot_or_plain table) 256 b h lt) other)

pub returns : goal.returns
returns c = record { plain = from_table PLAIN_BYTES c.args.byte (omega arith) refl }

-- The tables are held against the definition at each of the 256 bytes, by computing.
use Rattle.std.proofs.Common.{◌≡◌, ℕ, ◌<◌, Bool, true, ◌&&◌, nat_le, nat_eq, length, List, [], take, slice_index, slice_index_or, refl, arith}
use Rattle.std.specs.Str.{bytes_eq}
use Rattle.std.proofs.lemmas.Bool.{and_parts, leb-true, eqb-true}
use Rattle.std.proofs.lemmas.Slice.Eq.{bytes_eq-Decides}
use Rattle.git_pkt.specs.declared.escape.TheConstants.{ESCAPES, ESCAPE_LENGTHS}
use Rattle.git_pkt.specs.Escape.{escape_of}
use Rattle.git_names.specs.Digits.{lower_digit}
use Rattle.git_names.proofs.Tables.{all_pass, all_pass-at}
use Rattle.git_pkt.proofs.escape.look_up.Goals as goal

-- the place of a byte has its escape
abbrev is_right : List (List ℕ) → List ℕ → ℕ → Bool
is_right escapes lengths b =
    (nat_eq (length (slice_index_or escapes b [])) 4 && nat_le (slice_index lengths b) 4)
    && bytes_eq (take (slice_index lengths b) (slice_index_or escapes b [])) (escape_of b)

all_right : all_pass (is_right ESCAPES ESCAPE_LENGTHS) 256 ≡ true
unfolding escape_of lower_digit
all_right = refl

right_at : (b : ℕ) → b < 256 → is_right ESCAPES ESCAPE_LENGTHS b ≡ true
right_at b lt = all_pass-at (is_right ESCAPES ESCAPE_LENGTHS) 256 b all_right lt

pub returns-clause-four : goal.returns-clause-four
returns-clause-four c = eqb-true _ _ ((and_parts _ _ (and_parts _ _ (right_at c.args.byte (omega arith))).0).0)

pub returns-clause-within : goal.returns-clause-within
returns-clause-within c = leb-true _ _ ((and_parts _ _ (and_parts _ _ (right_at c.args.byte (omega arith))).0).1)

pub returns-clause-escaped : goal.returns-clause-escaped
returns-clause-escaped c = (bytes_eq-Decides _ _).0 ((and_parts _ _ (right_at c.args.byte (omega arith))).1)

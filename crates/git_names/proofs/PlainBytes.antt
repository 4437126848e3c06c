-- Bytes that no rule of reference names mentions.
use Rattle.std.proofs.Common.{◌≡◌, ℕ, ◌==◌, Bool, true, not, ◌&&◌, nat_le, arith}
use Rattle.git_names.specs.NextByte.{IsPlain}

-- the test that no rule mentions the byte
abbrev pub is_plain : ℕ → Bool
is_plain b =
    nat_le 33 b && not (b == 42) && not (b == 46) && not (b == 47) && not (b == 58) && not (b == 63) && not (b == 91)
    && not (b == 92) && not (b == 94) && not (b == 123) && not (b == 126) && not (b == 127)

pub IsPlain-is_plain : (b : ℕ) → is_plain b ≡ true → IsPlain b
IsPlain-is_plain b h = record {
  allowed = record {
    no_control = grind arith;
    no_space = grind arith;
    no_asterisk = grind arith;
    no_colon = grind arith;
    no_question_mark = grind arith;
    no_open_bracket = grind arith;
    no_backslash = grind arith;
    no_caret = grind arith;
    no_tilde = grind arith;
    no_delete = grind arith;
  };
  no_slash = grind arith;
  no_dot = grind arith;
  no_brace = grind arith;
}

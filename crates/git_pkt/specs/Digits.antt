-- The four hexadecimal digits that begin each packet.
use Rattle.std.specs.Prelude.{ℕ, ◌+◌, ◌*◌, ◌/◌, ◌%◌, ◌<◌, ◌≤◌, List, [], ◌∷◌, length, slice_index}
use Rattle.git_names.specs.Digits.{IsHexDigit, digit_value, lower_digit}

-- the number that the first four bytes spell, if they are digits
unfoldable pub digits_value : List ℕ → ℕ
digits_value s =
    digit_value (slice_index s 0) * 4096 + digit_value (slice_index s 1) * 256 + digit_value (slice_index s 2) * 16
    + digit_value (slice_index s 3)

-- the first four bytes are there, and are digits
pub record HasDigits (s : List ℕ) : Type 0 where
  pub four : 4 ≤ length s
  pub digits : (k : ℕ) → k < 4 → IsHexDigit (slice_index s k)

-- a number below 65,536 as four digits in lower case
abbrev pub digits_of : ℕ → List ℕ
digits_of n = lower_digit (n / 4096) ∷ lower_digit (n / 256 % 16) ∷ lower_digit (n / 16 % 16) ∷ lower_digit (n % 16) ∷ []

-- Hexadecimal digits, as the crate `hex` defines them.
use Rattle.std.specs.Prelude.{◌≡◌, ℕ, ◌<◌, Bool, List, length, nat_le, ◌&&◌, ◌||◌, slice_index, unwrap_or}
use Rattle.hex.specs.Hex.{hex_digit_value, lower_digits}

-- the value of a hexadecimal digit of either case, and 16 for any other byte
unfoldable pub digit_value : ℕ → ℕ
digit_value c = unwrap_or (hex_digit_value c) 16

abbrev pub IsHexDigit : ℕ → Type 0
IsHexDigit c = digit_value c < 16

-- each byte of the text is a digit
abbrev pub AreDigits : List ℕ → Type 0
AreDigits text = (k : ℕ) → k < length text → IsHexDigit (slice_index text k)

-- each byte of the text is a digit, and these are their values
abbrev pub HaveValues : List ℕ → List ℕ → Type 0
HaveValues text values = (k : ℕ) → k < length text → IsHexDigit (slice_index text k) × (slice_index values k ≡ digit_value (slice_index text k))

-- the digit of a value below 16, in lower case
unfoldable pub lower_digit : ℕ → ℕ
lower_digit d = slice_index lower_digits d

-- the byte is a digit in lower case
abbrev pub is_lower_digit : ℕ → Bool
is_lower_digit c = (nat_le 48 c && nat_le c 57) || (nat_le 97 c && nat_le c 102)

-- How bytes are shown on one line of text.
use Rattle.std.specs.Prelude.{ℕ, ◌/◌, ◌%◌, ◌==◌, ◌&&◌, List, [], ◌∷◌, nat_le, if◌then◌else◌, codes}
use Rattle.std.specs.List.{flat_map}
use Rattle.git_names.specs.Digits.{lower_digit}

-- LF and the backslash become two characters, other bytes from 0x20 to 0x7e stay as they are, and the rest are escaped with two digits
unfoldable pub escape_of : ℕ → List ℕ
escape_of b =
    if b == 10
    then codes "\\n"
    else (if b == 92
    then codes "\\\\"
    else (if nat_le 32 b && nat_le b 126 then b ∷ [] else 92 ∷ 120 ∷ lower_digit (b / 16) ∷ lower_digit (b % 16) ∷ []))

abbrev pub escaped_of : List ℕ → List ℕ
escaped_of bytes = flat_map escape_of bytes

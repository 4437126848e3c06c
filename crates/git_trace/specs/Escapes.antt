-- How a trace writes bytes, and how they are read back. An LF is not written; other bytes from 0x20 to 0x7e stand as they are, a backslash too;
-- the rest are a backslash and their octal digits, without zeros before them. So several lists of bytes have the same text.
use Rattle.std.specs.Prelude.{◌≡◌, ℕ, ◌+◌, ◌-◌, ◌*◌, ◌/◌, ◌%◌, ◌==◌, ◌&&◌, Bool, false, not, List, [], ◌∷◌, zero, suc}
use Rattle.std.specs.Prelude.{◌++◌, Option, None, Some, codes, nat_eq, nat_le, nat_lt, if◌then◌else◌, slice_get}
use Rattle.std.specs.List.{flat_map, starts_with}
use Rattle.git_trace.specs.declared.escapes.Escape.{Escape}

-- ---- how a trace writes bytes

-- a number below 512 in octal digits
unfoldable pub octal : ℕ → List ℕ
octal n =
    if nat_lt n 8
    then (n + 48) ∷ []
    else (if nat_lt n 64 then (n / 8 + 48) ∷ (n % 8 + 48) ∷ [] else (n / 64 + 48) ∷ (n / 8 % 8 + 48) ∷ (n % 8 + 48) ∷ [])

-- the byte stands as it is
abbrev pub is_printable : ℕ → Bool
is_printable b = nat_le 32 b && nat_le b 126

-- the digits of a byte. Where characters have a sign, as on x86, a byte from 0x80 is written as a number of 32 bits below zero
abbrev pub digits_of : Bool → ℕ → List ℕ
digits_of signed b = if signed && nat_le 128 b then codes "37777777" ++ octal (b + 256) else octal b

abbrev pub written_byte : Bool → ℕ → List ℕ
written_byte signed b = if b == 10 then [] else (if is_printable b then b ∷ [] else 92 ∷ digits_of signed b)

-- the text of a packet's bytes, by whether characters have a sign
abbrev pub written : Bool → List ℕ → List ℕ
written signed bytes = flat_map (written_byte signed) bytes

-- ---- how they are read back

-- the value of an octal digit, and 8 for any other byte or none
abbrev pub octal_value : Option ℕ → ℕ
octal_value None = 8
octal_value (Some c) = if nat_le 48 c && nat_le c 55 then c - 48 else 8

abbrev pub octal_at : List ℕ → ℕ → ℕ
octal_at text k = octal_value (slice_get text k)

abbrev pub is_octal_at : List ℕ → ℕ → Bool
is_octal_at text k = nat_lt (octal_at text k) 8

-- three digits from a place on, and their number
abbrev pub are_three_at : List ℕ → ℕ → Bool
are_three_at text k = is_octal_at text k && is_octal_at text (k + 1) && is_octal_at text (k + 2)

abbrev pub three_at : List ℕ → ℕ → ℕ
three_at text k = octal_at text k * 64 + octal_at text (k + 1) * 8 + octal_at text (k + 2)

abbrev pub two_of : List ℕ → ℕ
two_of text = octal_at text 0 * 8 + octal_at text 1

-- the digits of a byte from 0x80 as a number below zero
abbrev pub has_eleven : List ℕ → Bool
has_eleven text = starts_with nat_eq text (codes "37777777") && are_three_at text 8 && nat_le 384 (three_at text 8)

-- the digits of a byte from 0x7f
abbrev pub has_three : List ℕ → Bool
has_three text = are_three_at text 0 && nat_le 127 (three_at text 0) && nat_le (three_at text 0) 255

-- those of a byte from 8 to 31 that is no LF
abbrev pub has_two : List ℕ → Bool
has_two text = is_octal_at text 0 && is_octal_at text 1 && nat_le 8 (two_of text) && nat_lt (two_of text) 32 && not (two_of text == 10)

-- what follows a backslash is read as the longest digits that the trace writes for one byte. Where there are none the backslash stands for itself
abbrev pub escape_at : List ℕ → Escape
escape_at text =
    if has_eleven text
    then record { byte = three_at text 8 - 256; digits = 11 }
    else (if has_three text
    then record { byte = three_at text 0; digits = 3 }
    else (if has_two text
    then record { byte = two_of text; digits = 2 }
    else (if is_octal_at text 0 then record { byte = octal_at text 0; digits = 1 } else record { byte = 92; digits = 0 })))

-- the bytes that are read of a text, after so many of its characters
abbrev pub read_after : ℕ → List ℕ → List ℕ
read_after k [] = []
read_after zero (c ∷ text) = if c == 92 then (escape_at text).byte ∷ read_after (escape_at text).digits text else c ∷ read_after 0 text
read_after (suc k) (c ∷ text) = read_after k text

abbrev pub unescaped : List ℕ → List ℕ
unescaped text = read_after 0 text

-- ---- what is read back as it was

-- a byte other than an LF
abbrev pub is_written : ℕ → Bool
is_written b = not (b == 10)

-- no octal digit begins the bytes
abbrev pub NoDigit : List ℕ → Type 0
NoDigit [] = Unit {0}
NoDigit (b ∷ bytes) = octal_value (Some b) ≡ 8

-- behind a backslash, and behind a byte that is written in digits, no octal digit stands
abbrev pub IsClear : List ℕ → Type 0
IsClear [] = Unit {0}
IsClear (b ∷ bytes) = (is_printable b && not (b == 92) ≡ false → NoDigit bytes) × IsClear bytes

-- Properties of hexadecimal digits.
use Rattle.std.proofs.Common.{◌≡◌, ℕ, ◌+◌, ◌<◌, ◌==◌, Bool, true, not, ◌||◌, false, Option, Some, None, unwrap_or, refl, arith}
use Rattle.std.proofs.lemmas.Bool.{eqb-true}
use Rattle.hex.specs.Hex.{hex_digit_value, is_hex_digit}
use Rattle.git_names.specs.Digits.{IsHexDigit, digit_value, is_lower_digit, lower_digit}
use Rattle.git_names.proofs.Tables.{all_pass, all_pass-at}

-- a value below 16 belongs to a digit, and other bytes have no value
some_below : (value : Option ℕ) → unwrap_or value 16 < 16 → value ≡ Some (unwrap_or value 16)
some_below (Some v) h = refl
some_below None h = absurd (omega arith)

pub hex_digit_value-digit : (c : ℕ) → IsHexDigit c → hex_digit_value c ≡ Some (digit_value c)
unfolding digit_value
hex_digit_value-digit c h = some_below (hex_digit_value c) h

pub IsHexDigit-is_hex_digit : (c : ℕ) → is_hex_digit c ≡ true → IsHexDigit c
unfolding digit_value
IsHexDigit-is_hex_digit c h = grind arith

-- the digit of a value reads back
abbrev reads_back : ℕ → Bool
reads_back d = digit_value (lower_digit d) == d

all_read_back : all_pass reads_back 16 ≡ true
unfolding digit_value lower_digit
all_read_back = refl

pub digit_value-lower_digit : (d : ℕ) → d < 16 → digit_value (lower_digit d) ≡ d
digit_value-lower_digit d lt = eqb-true (digit_value (lower_digit d)) d (all_pass-at reads_back 16 d all_read_back lt)

-- it is in lower case
all_are_lower : all_pass (λ (d : ℕ). is_lower_digit (lower_digit d)) 16 ≡ true
unfolding lower_digit
all_are_lower = refl

pub is_lower_digit-lower_digit : (d : ℕ) → d < 16 → is_lower_digit (lower_digit d) ≡ true
is_lower_digit-lower_digit d lt = all_pass-at (λ (k : ℕ). is_lower_digit (lower_digit k)) 16 d all_are_lower lt

-- a digit in lower case is the digit of its value
abbrev is_own_digit : ℕ → Bool
is_own_digit c = not (is_lower_digit c) || lower_digit (digit_value c) == c

own_if_lower : (lower own : Bool) → (not lower || own) ≡ true → lower ≡ true → own ≡ true
own_if_lower true own h is = h
own_if_lower false own h is = cc is

all_own : all_pass is_own_digit 103 ≡ true
unfolding digit_value lower_digit
all_own = refl

pub lower_digit-digit_value : (c : ℕ) → is_lower_digit c ≡ true → lower_digit (digit_value c) ≡ c
lower_digit-digit_value c h =
    let small : c < 103 = grind arith in
    eqb-true (lower_digit (digit_value c)) c
    (own_if_lower (is_lower_digit c) (lower_digit (digit_value c) == c) (all_pass-at is_own_digit 103 c all_own small) h)

-- the digits of values below ten, and of the others
all_are_numbers : all_pass (λ (d : ℕ). lower_digit d == d + 48) 10 ≡ true
unfolding lower_digit
all_are_numbers = refl

pub lower_digit-number : (d : ℕ) → d < 10 → lower_digit d ≡ d + 48
lower_digit-number d lt = eqb-true (lower_digit d) (d + 48) (all_pass-at (λ (k : ℕ). lower_digit k == k + 48) 10 d all_are_numbers lt)

all_are_letters : all_pass (λ (d : ℕ). lower_digit (d + 10) == d + 97) 6 ≡ true
unfolding lower_digit
all_are_letters = refl

pub lower_digit-letter : (d : ℕ) → d < 6 → lower_digit (d + 10) ≡ d + 97
lower_digit-letter d lt = eqb-true (lower_digit (d + 10)) (d + 97) (all_pass-at (λ (k : ℕ). lower_digit (k + 10) == k + 97) 6 d all_are_letters lt)

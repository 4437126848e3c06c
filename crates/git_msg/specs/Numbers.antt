-- Numbers in decimal digits.
use Rattle.std.specs.Prelude.{◌≡◌, ◌≢◌, ℕ, ◌+◌, ◌-◌, ◌*◌, ◌^◌, ◌≤◌, List, [], ◌∷◌, length, All}

-- the value of decimal digits: each counts ten times as much as the next one
abbrev pub decimal_value : List ℕ → ℕ
decimal_value [] = 0
decimal_value (digit ∷ digits) = (digit - 48) * 10 ^ length digits + decimal_value digits

abbrev pub IsDigit : ℕ → Type 0
IsDigit c = (48 ≤ c) × (c ≤ 57)

-- the text is one or more digits, and this is their value
pub record IsNumber (text : List ℕ) (number : ℕ) : Type 0 where
  pub some : text ≢ []
  pub digits : All IsDigit text
  pub value : number ≡ decimal_value text

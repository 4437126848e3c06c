-- Texts that are numbers, by computing.
use Rattle.std.proofs.Common.{◌≡◌, ℕ, Bool, true, nat_le, List, [], ◌∷◌, All, refl, arith, ◌&&◌}
use Rattle.std.proofs.lemmas.Bool.{and_parts}
use Rattle.std.proofs.lemmas.List.Elements.{All-cons, All-nil}
use Rattle.git_msg.specs.Numbers.{IsDigit, IsNumber, decimal_value}

abbrev pub is_digit : ℕ → Bool
is_digit c = nat_le 48 c && nat_le c 57

abbrev pub are_digits : List ℕ → Bool
are_digits [] = true
are_digits (c ∷ text) = is_digit c && are_digits text

digit_by : (c : ℕ) → is_digit c ≡ true → IsDigit c
digit_by c h = (grind arith, grind arith)

pub digits_by : (text : List ℕ) → are_digits text ≡ true → All IsDigit text
digits_by [] h = All-nil IsDigit
digits_by (c ∷ text) h =
    let parts = and_parts (is_digit c) (are_digits text) h in
    All-cons IsDigit c text (digit_by c parts.0) (digits_by text parts.1)

-- the text is a number
pub number_by : (c : ℕ) (text : List ℕ) → are_digits (c ∷ text) ≡ true → IsNumber (c ∷ text) (decimal_value (c ∷ text))
number_by c text h = record { some = λ e. cc; digits = digits_by (c ∷ text) h; value = refl }

-- Digits and their values.
use Rattle.std.proofs.Common.{arith, ◌≡◌, ◌≢◌, ℕ, ◌+◌, ◌-◌, ◌*◌, ◌^◌, ◌<◌, ◌≤◌, List, [], ◌∷◌, All, refl, sym, ap, ◌∙◌, length, drop, get_or, decimal, rules}
use Rattle.std.proofs.lemmas.Fmt.{decimal_nonempty, digits_decimal, digits_value-decimal, length-decimal-le}
use Rattle.std.proofs.lemmas.Grind.{common_steps}
use Rattle.std.proofs.lemmas.List.Elements.{All-nil, All-cons, All-head, All-tail, All-get_or, All-from_get_or}
use Rattle.std.proofs.lemmas.Str.Parse.{IsDigitsTest, IsNumeralModel, WeighsDigits, digits_value_short, numerals_by_weight}
use Rattle.git_msg.proofs.TextParts.{drop_cons}
use Rattle.git_msg.specs.Numbers.{IsDigit, IsNumber, decimal_value}
use native.Mathlib.Nat.{add-mul, mul_assoc, mul-one, zero-mul, pow-succ'}

-- the value of digits that follow others with this value
abbrev pub value_behind : ℕ → List ℕ → ℕ
value_behind front [] = front
value_behind front (digit ∷ digits) = value_behind (front * 10 + (digit - 48)) digits

-- the digits before are multiplied by a power of ten for those after them
behind_is : (front : ℕ) (digits : List ℕ) → value_behind front digits ≡ front * 10 ^ length digits + decimal_value digits
behind_is front [] = omega (arith, mul-one front)
behind_is front (d ∷ ds) =
    let place = 10 ^ length ds in
    omega (
      arith,
      behind_is (front * 10 + (d - 48)) ds,
      add-mul (front * 10) (d - 48) place,
      mul_assoc front 10 place,
      ap (λ x. front * x) (pow-succ' 10 (length ds)),
    )

from_nothing : (text : List ℕ) → value_behind 0 text ≡ decimal_value text
from_nothing text = behind_is 0 text ∙ omega (arith, zero-mul (10 ^ length text))

-- one more digit
pub value_step : (text : List ℕ) (at front : ℕ) → at < length text
    → value_behind front (drop at text) ≡ value_behind (front * 10 + (get_or text at 0 - 48)) (drop (at + 1) text)
value_step text at front h = ap (value_behind front) (drop_cons text at h)

-- more digits never make a number smaller
value_grows : (digits : List ℕ) (front : ℕ) → front ≤ value_behind front digits
value_grows [] front = omega arith
value_grows (d ∷ ds) front = let h = value_grows ds (front * 10 + (d - 48)) in omega (arith, h)

pub too_large : (text : List ℕ) (at front bound : ℕ) → at < length text → value_behind front (drop at text) ≡ value_behind 0 text
    → bound ≤ front * 10 + (get_or text at 0 - 48) → (number : ℕ) → number < bound → IsNumber text number → ⊥
too_large text at front bound within same large number low is = search (rules, value_step, value_grows, from_nothing)

pub no_digit : (text : List ℕ) (at : ℕ) → at < length text → (IsDigit (get_or text at 0) → ⊥) → (number : ℕ) → IsNumber text number → ⊥
no_digit text at within bad number is = bad (All-get_or IsDigit text at 0 within is.digits)

drop_all : (text : List ℕ) → drop (length text) text ≡ []
drop_all text = grind (arith, common_steps)

pub all_read : (text : List ℕ) (number : ℕ) → (text ≡ [] → ⊥) → ((k : ℕ) → k < length text → IsDigit (get_or text k 0))
    → value_behind number (drop (length text) text) ≡ value_behind 0 text → IsNumber text number
all_read text number some digits same = record {
  some = some;
  digits = All-from_get_or IsDigit text 0 digits;
  value = sym (ap (value_behind number) (drop_all text)) ∙ same ∙ from_nothing text;
}

-- a text has one number
pub one_number : (text : List ℕ) (a b : ℕ) → IsNumber text a → IsNumber text b → a ≡ b
one_number text a b h k = h.value ∙ sym k.value

-- the premises of the standard library's lemmas on digits
announces_digits : IsDigitsTest (All IsDigit)
announces_digits = record {
  empty = All-nil IsDigit;
  parts = λ c cs h. (All-head IsDigit c cs h, All-tail IsDigit c cs h);
  more = λ c cs h hs. All-cons IsDigit c cs h hs;
}

weighs_digits : WeighsDigits decimal_value
weighs_digits = record { empty = refl; more = λ c cs h. refl }

is_numeral : IsNumeralModel (All IsDigit) decimal_value
is_numeral = numerals_by_weight (All IsDigit) announces_digits decimal_value weighs_digits

not_empty : (text : List ℕ) → 0 < length text → text ≢ []
not_empty text some none = omega (arith, some, ap length none)

has_bytes : (text : List ℕ) → text ≢ [] → 0 < length text
has_bytes [] some = absurd (some refl)
has_bytes (c ∷ cs) some = omega arith

-- the written form of a number reads back as that number
pub decimal_reads_back : (n : ℕ) → n < 2 ^ 64 → IsNumber (decimal n) n
decimal_reads_back n small = search (rules, not_empty, decimal_nonempty, digits_decimal, is_numeral, digits_value-decimal)

-- and is the shortest text of the number
pub decimal_is_shortest : (n : ℕ) (text : List ℕ) → n < 2 ^ 64 → IsNumber text n → length (decimal n) ≤ length text
decimal_is_shortest n text small is = search (rules, digits_value_short, is_numeral, length-decimal-le, has_bytes)

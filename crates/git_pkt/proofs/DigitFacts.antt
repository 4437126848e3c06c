-- Facts about the four digits of a packet.
use Rattle.std.proofs.Common.{ℕ, ◌<◌, List, slice_index, arith, below_more}
use Rattle.git_names.specs.Digits.{IsHexDigit}

-- digits below k
abbrev pub DigitsBelow : List ℕ → ℕ → Type 0
DigitsBelow s k = (j : ℕ) → j < k → IsHexDigit (slice_index s j)

pub digits_below-none : (s : List ℕ) → DigitsBelow s 0
digits_below-none s j h = omega arith

pub digits_below-one : (s : List ℕ) → IsHexDigit (slice_index s 0) → DigitsBelow s 1
digits_below-one s a = below_more (λ j. IsHexDigit (slice_index s j)) 0 (digits_below-none s) a

pub digits_below-two : (s : List ℕ) → IsHexDigit (slice_index s 0) → IsHexDigit (slice_index s 1) → DigitsBelow s 2
digits_below-two s a b = below_more (λ j. IsHexDigit (slice_index s j)) 1 (digits_below-one s a) b

pub digits_below-three : (s : List ℕ) → IsHexDigit (slice_index s 0) → IsHexDigit (slice_index s 1) → IsHexDigit (slice_index s 2) → DigitsBelow s 3
digits_below-three s a b d = below_more (λ j. IsHexDigit (slice_index s j)) 2 (digits_below-two s a b) d

pub digits_below-four : (s : List ℕ)
    → IsHexDigit (slice_index s 0) → IsHexDigit (slice_index s 1) → IsHexDigit (slice_index s 2) → IsHexDigit (slice_index s 3) → DigitsBelow s 4
digits_below-four s a b d e = below_more (λ j. IsHexDigit (slice_index s j)) 3 (digits_below-three s a b d) e

-- Rests that may still become a packet, and rests that have an error, by computing.
use Rattle.std.proofs.Common.{codes, refl, ◌≡◌, ◌≢◌, ℕ, ◌<◌, ◌≤◌, ◌==◌, Bool, true, not, nat_le, nat_lt}
use Rattle.std.proofs.Common.{List, [], length, take, slice_index, arith, ◌&&◌, ◌||◌}
use Rattle.std.proofs.lemmas.Bool.{and_parts}
use Rattle.git_names.specs.Digits.{IsHexDigit, digit_value}
use Rattle.git_names.proofs.Tables.{all_pass, all_pass-at}
use Rattle.git_pkt.specs.Digits.{HasDigits, digits_value}
use Rattle.git_pkt.specs.Faults.{FirstBadDigit, IsOpen, ShowsAtEnd, StopsBy}
use Rattle.git_pkt.specs.declared.fault.Kind.TheVariants.{BadDigit}
use Rattle.git_pkt.proofs.DigitFacts.{digits_below-four}

-- the byte at this index is a digit, or there is none
abbrev pub digit_or_end : List ℕ → ℕ → Bool
digit_or_end rest k = nat_lt (digit_value (slice_index rest k)) 16 || nat_le (length rest) k

-- the four digits have not all come, or are those of a packet
abbrev pub is_short_or_allowed : List ℕ → Bool
is_short_or_allowed rest = nat_lt (length rest) 4 || (not (digits_value rest == 3) && nat_le (digits_value rest) 65520)

abbrev pub is_open : List ℕ → Bool
is_open rest = all_pass (digit_or_end rest) 4 && is_short_or_allowed rest

digit_at : (c long k : ℕ) → (nat_lt (digit_value c) 16 || nat_le long k) ≡ true → k < long → IsHexDigit c
digit_at c long k h lt = grind arith

allowed_at : (long value : ℕ) → (nat_lt long 4 || (not (value == 3) && nat_le value 65520)) ≡ true → 4 ≤ long → (value ≢ 3) × (value ≤ 65520)
allowed_at long value h four = (λ e. grind arith, grind arith)

-- the rest may still become a packet
pub open_by : (rest : List ℕ) → is_open rest ≡ true → IsOpen rest
open_by rest h =
    let parts = and_parts (all_pass (digit_or_end rest) 4) (is_short_or_allowed rest) h in
    record {
      digits = λ k four lt. digit_at (slice_index rest k) (length rest) k (all_pass-at (digit_or_end rest) 4 k parts.0 four) lt;
      allowed = allowed_at (length rest) (digits_value rest) parts.1;
    }

-- no shorter beginning of the rest has an error
pub shows_by : (rest : List ℕ) → all_pass (λ n. is_open (take n rest)) (length rest) ≡ true → ShowsAtEnd rest
shows_by rest h n lt = open_by (take n rest) (all_pass-at (λ (n : ℕ). is_open (take n rest)) (length rest) n h lt)

-- the first four bytes are digits
pub digits_by : (rest : List ℕ) → 4 ≤ length rest → IsHexDigit (slice_index rest 0) → IsHexDigit (slice_index rest 1)
    → IsHexDigit (slice_index rest 2) → IsHexDigit (slice_index rest 3) → HasDigits rest
digits_by rest four a b c d = record { four = four; digits = digits_below-four rest a b c d }

-- the first byte that is not a digit, by computing
pub bad_digit_by : (rest : List ℕ) (k : ℕ) → k < 4 → k < length rest → all_pass (digit_or_end rest) k ≡ true → ¬ IsHexDigit (slice_index rest k)
    → FirstBadDigit rest k
bad_digit_by rest k among there before bad = record {
  among = among;
  there = there;
  before = λ j lt. digit_at (slice_index rest j) (length rest) j (all_pass-at (digit_or_end rest) k j before lt) (omega arith);
  bad = bad;
}

-- an empty rest is open
pub open_nothing : IsOpen []
open_nothing = record { digits = λ k four lt. omega arith; allowed = λ four. omega arith }

-- a letter that is not a digit, at index 2
pub stops_at_letter : StopsBy 0 (codes "00g") 3 BadDigit 2
unfolding digit_value digits_value
stops_at_letter = ((2, bad_digit_by (codes "00g") 2 (omega arith) (omega arith) refl (λ h. omega arith), refl), shows_by (codes "00g") refl)

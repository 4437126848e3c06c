use Rattle.std.proofs.Common.{◌≡◌, ◌<◌, ℕ, false, length, slice_index, true}
use Rattle.git_names.specs.Digits.{IsHexDigit, digit_value}
use Rattle.git_names.proofs.digits.digit_values.Given as goal

abbrev pub invariant-loop-i : goal.invariant-loop-i
invariant-loop-i l = record {
  long : length l.values ≡ 64;
  found : (k : ℕ) → k < l.i → slice_index l.values k ≡ digit_value (slice_index l.digits k);
  all : l.has_other ≡ false → (k : ℕ) → k < l.i → IsHexDigit (slice_index l.digits k);
  other : l.has_other ≡ true → ((k : ℕ) → k < 64 → IsHexDigit (slice_index l.digits k)) → ⊥;
}

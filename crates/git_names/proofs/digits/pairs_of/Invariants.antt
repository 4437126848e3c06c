use Rattle.std.proofs.Common.{◌≡◌, ◌+◌, ◌*◌, ◌/◌, ◌%◌, ◌<◌, ℕ, length, slice_index}
use Rattle.git_names.specs.Digits.{lower_digit}
use Rattle.git_names.proofs.digits.pairs_of.Given as goal

abbrev pub invariant-loop-i : goal.invariant-loop-i
invariant-loop-i l = record {
  long : length l.digits ≡ 64;
  high : (k : ℕ) → k < l.i → slice_index l.digits (2 * k) ≡ lower_digit (slice_index l.bytes k / 16);
  low : (k : ℕ) → k < l.i → slice_index l.digits (2 * k + 1) ≡ lower_digit (slice_index l.bytes k % 16);
}

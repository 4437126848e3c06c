use Rattle.std.proofs.Common.{◌≡◌, ◌<◌, ℕ, true, false, slice_index}
use Rattle.git_names.specs.Digits.{is_lower_digit}
use Rattle.git_host.proofs.written_digits.are_written.Given as goal

abbrev pub invariant-loop-i : goal.invariant-loop-i
invariant-loop-i l = record {
  lower : l.has_other ≡ false → (k : ℕ) → k < l.i → is_lower_digit (slice_index l.text k) ≡ true;
}

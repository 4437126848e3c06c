use Rattle.std.proofs.Common.{◌≡◌, ℕ, ◌<◌, get_or, drop}
use Rattle.git_msg.specs.Numbers.{IsDigit}
use Rattle.git_msg.proofs.DigitValues.{value_behind}
use Rattle.git_msg.proofs.numbers.read_number.Given as goal

abbrev pub invariant-loop-digit : goal.invariant-loop-digit
invariant-loop-digit l = record {
  digits : (k : ℕ) → k < l.digit-index → IsDigit (get_or l.text k 0);
  value : value_behind l.number (drop l.digit-index l.text) ≡ value_behind 0 l.text;
}

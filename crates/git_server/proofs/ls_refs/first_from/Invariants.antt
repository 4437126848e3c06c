use Rattle.std.proofs.Common.{◌≡◌, ℕ, ◌-◌, ◌<◌, ◌≤◌, true, length, slice_index_or}
use Rattle.git_server.specs.Repository.{Entry, comes_before}
use Rattle.git_server.proofs.ls_refs.first_from.Given as goal

-- those passed over come before the text
abbrev pub invariant-loop-low : goal.invariant-loop-low
invariant-loop-low l = record {
  onward : l.fn.from ≤ l.low;
  within : l.low ≤ l.high;
  bound : l.high ≤ length l.refs;
  before : (k : ℕ) (d : Entry) → l.fn.from ≤ k → k < l.low → comes_before (slice_index_or l.refs k d).name l.text ≡ true;
}

abbrev pub decreases-loop-low : goal.decreases-loop-low
decreases-loop-low l = l.high - l.low

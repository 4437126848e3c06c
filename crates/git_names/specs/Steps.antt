-- How much a call raises a counter of steps.
use Rattle.std.specs.Prelude.{ℕ, ◌+◌, ◌≤◌}

-- a counter rose from `before` to `after`, by at most this much
pub record TakesAtMost (most before after : ℕ) : Type 0 where
  pub rises : before ≤ after
  pub within : after ≤ before + most

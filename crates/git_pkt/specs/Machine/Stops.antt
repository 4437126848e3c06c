-- How a clause sees a `Stops`.
use Rattle.std.specs.Prelude.{ℕ}
use Rattle.git_pkt.specs.declared.stops.Stops.{Stops}

module _ {T : Type 0} where
  -- the reader or writer that is wrapped
  abbrev pub inner_of : Stops T → T
  inner_of stops = stops.inner

  -- how many more calls it passes on
  abbrev pub calls_left : Stops T → ℕ
  calls_left stops = stops.calls_left

-- The values of a `Growths` that contracts refer to.
use Rattle.std.specs.Prelude.{Bool}
use Rattle.git_server.specs.declared.growths.Growths.{Growths}

-- memory for a growth was refused
abbrev pub has_refused : Growths → Bool
has_refused growths = growths.has_refused

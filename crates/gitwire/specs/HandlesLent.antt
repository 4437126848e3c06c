-- A handle that lends what its machine has: it has the same machine afterwards.
use Rattle.std.specs.Prelude.{◌≡◌}
use Rattle.std.specs.Borrow.{MutBor, Fml}
use Rattle.std.specs.Io.BufRead.{Rests}
use Rattle.gitwire.specs.declared.held.Handle.{Handle}
use Rattle.gitwire.specs.contracts.held.Handle.{the_row}

-- once the borrow ends, the handle has the machine that it had
abbrev pub HandleStays : MutBor Handle → Fml
HandleStays handle = Rests the_row handle (λ new. new.held.machine ≡ handle.now.held.machine)

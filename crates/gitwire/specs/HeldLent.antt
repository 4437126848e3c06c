-- A machine that is lent where it is.
use Rattle.std.specs.Prelude.{Some}
use Rattle.std.specs.Borrow.{Lends, MutBor, Fml}
use Rattle.gitwire.specs.declared.held.Held.{Held}
use Rattle.gitwire.specs.contracts.machine.Machine.{the_row as machine_row}
use Rattle.gitwire.specs.contracts.held.Held.{the_row}

-- the handle with another machine
abbrev pub with_machine : Held → machine_row.Denot → Held
with_machine held machine = record held { machine = Some machine }

-- once the borrow ends, the handle has the machine that the borrower left
abbrev pub LendsMachine : MutBor Held → MutBor machine_row.Denot → Fml
LendsMachine held machine = Lends the_row machine_row held machine (with_machine held.now)

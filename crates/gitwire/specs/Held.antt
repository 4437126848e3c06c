-- What a machine that C holds owns: the same as a `Box<Machine>`, or nothing.
use base.Fml.{Fml, ftrue}
use base.Stored.{Coded}
use denote.RawPtr.{Ptr}
use Rattle.std.specs.Prelude.{Option, Some, None}
use Rattle.std.specs.Coded.{coded_option}
use Rattle.std.specs.Box.Ownership.{box_owns}
use Rattle.std.specs.Global.{Global}
use Rattle.std_heap.specs.contracts.GlobalAllocator.TheImpl.{ghosts}
use Rattle.gitwire.specs.contracts.machine.Machine.{the_row}

abbrev pub held_owns : Global → Ptr → Option the_row.Denot → Fml
held_owns alloc at None = ftrue
held_owns alloc at (Some machine) = box_owns (ghosts.dealloc_token alloc) the_row at machine

abbrev pub machine_coded : Coded (Option the_row.Denot)
machine_coded = coded_option the_row.coded

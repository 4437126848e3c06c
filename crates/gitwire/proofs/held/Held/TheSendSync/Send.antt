-- A handle may go to another thread, with the machine that it owns.
use mir.Raw.{raw}
use denote.Memory.{lone}
use denote.RawPtr.{Ptr}
use base.Shift.{Keyless}
use denote.Struct.Struct.{exits_of}
use denote.Struct.Owning.{shape, fields, to}
use denote.Param.Send.{IsSend, AllSend, owning_send, struct_send, sendable}
use Rattle.std.specs.Prelude.{Option, Some, None}
use Rattle.std.specs.Global.{Global}
use Rattle.std.proofs.Crossing as heap
use Rattle.std_alloc.proofs.SendSync.{quiet, lies}
use Rattle.std_heap.proofs.Global.TheSendSync as handle
use Rattle.gitwire.specs.contracts.machine.Machine as Machine
use Rattle.gitwire.proofs.machine.Machine.TheSendSync.{the_send as machine}
use Rattle.gitwire.specs.Held.{held_owns}
use Rattle.gitwire.specs.contracts.held.Held.{the_row, the_type}

keyless : (alloc : Global) (at : Ptr) (held : Option (Machine.the_row).Denot) → Keyless (held_owns alloc at held)
keyless alloc at None = tt
keyless alloc at (Some x) = (lies Machine.the_row machine at x, heap.frees.frees alloc (raw (lone (Machine.the_row).mir)) at)

pub send : IsSend the_row
send =
    let all : AllSend (fields the_type) = (search sendable, (handle.the_field_send, tt)) in
    owning_send the_type all (λ d. keyless d.alloc d.at d.machine)
    (λ k. quiet (to the_type) (exits_of k (fields the_type)) ((struct_send (shape the_type) all).leaving k))

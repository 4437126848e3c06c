-- The payload that a packet reader lends.
use Rattle.std.specs.Prelude.{ℕ, List, [], Option, Some, None, drop}
use Rattle.std.specs.Option.{option_map}
use Rattle.git_pkt.specs.Machine.PacketReader.{held_of}
use Rattle.git_pkt.specs.declared.reader.PacketReader.{PacketReader}
use Rattle.gitwire.specs.Machines.{gatherer_of, machine_as}
use Rattle.gitwire.specs.declared.machine.Machine.{Machine}

-- the bytes after the four digits of its last packet, which is in its hold
abbrev pub payload_held : PacketReader → List ℕ
payload_held reader = drop 4 (held_of reader)

-- no bytes if there is no reader
abbrev pub payload_lent : Option PacketReader → List ℕ
payload_lent None = []
payload_lent (Some reader) = payload_held reader

-- no bytes for another machine
abbrev pub payload_in : Option Machine → List ℕ
payload_in machine = payload_lent (option_map (λ gatherer. gatherer.reader) (machine_as gatherer_of machine))

-- The effect on a reader of writing a packet into its buffer.
use Rattle.std.specs.Prelude.{◌≡◌, ◌≤◌, ℕ, false, List, ◌∷◌, length}
use Rattle.std.specs.Io.{StartsWith}
use Rattle.git_pkt.specs.Packets.{Pkt, spelling_of, body_of, longest_payload}
use Rattle.git_pkt.specs.Splits.{Given}
use Rattle.git_pkt.specs.Machine.PacketReader.{Reads, bytes_held, held_of, fault_of, is_open, passes_of, position_of}
use Rattle.git_pkt.specs.declared.reader.PacketReader.{PacketReader}

-- the buffer begins with the packet's spelling
abbrev pub IsAtFront : PacketReader → Pkt → Type 0
IsAtFront reader packet = StartsWith (held_of reader) (spelling_of packet)

-- it does, and the reader reads on as before
pub record Writes (old : PacketReader) (packet : Pkt) (new : PacketReader) : Type 0 where
  pub held : IsAtFront new packet
  pub fits : length (body_of packet) ≤ longest_payload
  pub between : is_open new ≡ false
  pub gathers : passes_of new ≡ false
  pub fault : fault_of new ≡ fault_of old
  pub position : position_of new ≡ position_of old
  pub holds : bytes_held new ≤ 65520
  pub reads : (start : ℕ) (bytes : List ℕ) (given : List Given) (rest : List ℕ) → Reads old start bytes given rest → Reads new start bytes given rest

-- the first of the packets that have to be sent was written, and these others are left
pub record WritesFirst (unsent : List Pkt) (old : PacketReader) (others : List Pkt) (new : PacketReader) : Type 0 where
  pub packet : Pkt
  pub comes_first : unsent ≡ packet ∷ others
  pub writes : Writes old packet new

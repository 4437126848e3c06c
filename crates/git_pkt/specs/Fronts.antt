-- The packet at the front of some bytes.
use Rattle.std.specs.Prelude.{ℕ, List}
use Rattle.std.specs.Io.{StartsWith}
use Rattle.git_pkt.specs.Packets.{Pkt, Spells}

-- the bytes begin with a packet
pub record HasFront (bytes : List ℕ) : Type 0 where
  pub packet : Pkt
  pub spelling : List ℕ
  pub spells : Spells packet spelling
  pub starts : StartsWith bytes spelling

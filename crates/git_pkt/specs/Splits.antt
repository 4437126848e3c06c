-- How a stream splits into packets and a rest. The definitions speak of the whole list of bytes, however it came.
use Rattle.std.specs.Prelude.{◌≡◌, ℕ, ◌+◌, List, [], ◌∷◌, ◌++◌, length}
use Rattle.git_pkt.specs.Packets.{Pkt, Spells}

-- a packet, and the offset of its first byte
pub record Given : Type 0 where
  pub packet : Pkt
  pub offset : ℕ

-- from offset p on, the bytes spell each packet in order, and then the rest
abbrev pub SpellsAll : ℕ → List ℕ → List Given → List ℕ → Type 0
SpellsAll p bytes [] rest = bytes ≡ rest
SpellsAll p bytes (g ∷ gs) rest =
    (s : List ℕ) × (more : List ℕ) × (bytes ≡ s ++ more) × (g.offset ≡ p) × Spells g.packet s × SpellsAll (p + length s) more gs rest

-- no packet begins the bytes
abbrev pub NoneBegins : List ℕ → Type 0
NoneBegins rest = (q : Pkt) (s more : List ℕ) → rest ≡ s ++ more → Spells q s → ⊥

-- the stream that starts at p is these packets, and a rest that no packet begins
pub record Splits (p : ℕ) (bytes : List ℕ) (given : List Given) (rest : List ℕ) : Type 0 where
  pub spelled : SpellsAll p bytes given rest
  pub ends : NoneBegins rest

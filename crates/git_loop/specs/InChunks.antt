-- Bytes by their place in a chunk.
use Rattle.std.specs.Prelude.{◌≡◌, ℕ, ◌≤◌, ◌-◌, List, length, take, drop}
use Rattle.git_loop.specs.declared.in_chunk.InChunk.{InChunk}

-- the bytes
abbrev pub bytes_in : InChunk → List ℕ
bytes_in place = place.bytes.bytes

-- they lie in this chunk
pub record LiesIn (place : InChunk) (chunk : List ℕ) : Type 0 where
  pub ordered : place.start ≤ place.end
  pub within : place.end ≤ length chunk
  pub bytes : place.bytes.bytes ≡ take (place.end - place.start) (drop place.start chunk)

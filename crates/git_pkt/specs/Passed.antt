-- Bytes on a band that pass as they come: those of the pack and of the progress.
use Rattle.std.specs.Prelude.{ℕ, ◌==◌, Bool, false, List, [], ◌∷◌, ◌++◌, drop, map, is_some, Option, Some, None, if◌then◌else◌}
use Rattle.git_pkt.specs.Packets.{Pkt, payload}
use Rattle.git_pkt.specs.Splits.{Given}
use Rattle.git_pkt.specs.declared.band.Band.{Band}
use Rattle.git_pkt.specs.declared.band.Band.TheVariants.{Pack, Progress}

-- a byte on a band
pub record OnBand : Type 0 where
  pub band : Band
  pub byte : ℕ

abbrev pub on : Band → ℕ → OnBand
on band byte = record { band = band; byte = byte }

-- the band that this byte names, if its bytes pass
abbrev pub passing_band : ℕ → Option Band
passing_band byte = if byte == 1 then Some Pack else if byte == 2 then Some Progress else None

-- the band whose byte a payload begins with, if its bytes pass
abbrev pub band_in : List ℕ → Option Band
band_in [] = None
band_in (byte ∷ bytes) = passing_band byte

-- a payload begins with the byte of such a band
abbrev pub begins_band : List ℕ → Bool
begins_band bytes = is_some (band_in bytes)

-- the bytes on the band
abbrev pub bytes_on : Option Band → List ℕ → List OnBand
bytes_on None bytes = []
bytes_on (Some band) bytes = map (on band) bytes

-- the bytes that pass of a payload: those after the byte of its band
abbrev pub passed_in : List ℕ → List OnBand
passed_in [] = []
passed_in (byte ∷ bytes) = bytes_on (passing_band byte) bytes

-- the bytes that pass of a packet
abbrev pub passed_by : Pkt → List OnBand
passed_by (payload bytes) = passed_in bytes
passed_by packet = []

abbrev pub passed_by_all : List Given → List OnBand
passed_by_all [] = []
passed_by_all (g ∷ gs) = passed_by g.packet ++ passed_by_all gs

-- the bytes that pass of a packet that has not come whole
abbrev pub passed_by_rest : List ℕ → List OnBand
passed_by_rest rest = passed_in (drop 4 rest)

-- the packet is on a band whose bytes pass
abbrev pub is_on_band : Pkt → Bool
is_on_band (payload bytes) = begins_band bytes
is_on_band packet = false

-- the packets that are on no band whose bytes pass
abbrev pub others : List Given → List Given
others [] = []
others (g ∷ gs) = if is_on_band g.packet then others gs else g ∷ others gs

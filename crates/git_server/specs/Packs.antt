-- The pack in an answer: in packets of the pack's band, cut in any way, to its end or to the point at which its source failed.
use Rattle.std.specs.Prelude.{◌≡◌, ℕ, ◌-◌, ◌≤◌, List, [], ◌∷◌, ◌++◌, length, take, drop, codes}
use Rattle.git_pkt.specs.Packets.{Pkt, flush}
use Rattle.git_pkt.specs.Bands.{AreBands, band_packet}
use Rattle.git_pkt.specs.declared.band.Band.TheVariants.{Pack, Fatal}
use Rattle.git_msg.specs.WrittenRequest.{text_line}

-- this number of bytes of the pack from an offset on were put in front: at least one, or none if the pack has no more
pub record IsPackPart (pack : List ℕ) (offset count : ℕ) (out : List ℕ) : Type 0 where
  pub fits : count ≤ length out
  pub within : count ≤ length pack - offset
  pub bytes : take count out ≡ take count (drop offset pack)
  pub ends : count ≡ 0 → length pack ≤ offset

-- how an answer comes: whole, or broken off because the pack's source failed
pub data Manner : Type 0 where
  whole : Manner
  broken : Manner

-- all of the bytes come, and then a flush
pub record EndsWhole (bytes : List ℕ) (packets : List Pkt) : Type 0 where
  pub bands : List Pkt
  pub are_bands : AreBands Pack bytes bands
  pub packets_are : packets ≡ bands ++ flush ∷ []

-- the packet that reports that the pack's source failed
abbrev pub pack_source_packet : Pkt
pack_source_packet = band_packet Fatal (codes "PackSource")

-- a prefix of the bytes comes, and then the failure is reported, with no flush after it
pub record EndsBroken (bytes : List ℕ) (packets : List Pkt) : Type 0 where
  pub front : List ℕ
  pub back : List ℕ
  pub bands : List Pkt
  pub cut : bytes ≡ front ++ back
  pub are_bands : AreBands Pack front bands
  pub packets_are : packets ≡ bands ++ pack_source_packet ∷ []

-- from these bytes of the pack on, the packets end an answer
abbrev pub EndsPack : Manner → List ℕ → List Pkt → Type 0
EndsPack whole bytes packets = EndsWhole bytes packets
EndsPack broken bytes packets = EndsBroken bytes packets

-- the line that begins the section of the pack
abbrev pub packfile_header : Pkt
packfile_header = text_line (codes "packfile")

-- the section of the pack
pub record IsPackfile (manner : Manner) (pack : List ℕ) (packets : List Pkt) : Type 0 where
  pub tail : List Pkt
  pub ends : EndsPack manner pack tail
  pub packets_are : packets ≡ packfile_header ∷ tail

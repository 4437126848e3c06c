-- The side bands of a packfile section, as in gitprotocol-v2(5).
use Rattle.std.specs.Prelude.{◌≡◌, ◌≢◌, ℕ, ◌<◌, List, [], ◌∷◌, ◌++◌, length}
use Rattle.git_pkt.specs.Packets.{Pkt, payload, longest_payload}
use Rattle.git_pkt.specs.declared.band.Band.{Band}
use Rattle.git_pkt.specs.declared.band.Band.TheVariants.{Pack, Progress, Fatal}
use Rattle.git_pkt.specs.declared.fault.Kind.{Kind}
use Rattle.git_pkt.specs.declared.fault.Kind.TheVariants.{NoBand, BadBand}

-- the band's byte
abbrev pub byte_of : Band → ℕ
byte_of Pack = 1
byte_of Progress = 2
byte_of Fatal = 3

-- the packet of these bytes on the band
abbrev pub band_packet : Band → List ℕ → Pkt
band_packet band bytes = payload (byte_of band ∷ bytes)

-- the payload does not begin with a band's byte, and is refused with this error
abbrev pub IsNoBand : List ℕ → Kind → Type 0
IsNoBand [] kind = kind ≡ NoBand
IsNoBand (byte ∷ bytes) kind = ((band : Band) → byte ≢ byte_of band) × (kind ≡ BadBand)

-- the packets have the bytes on the band, in order: each has at least one of them, and at most as many as a packet takes
abbrev pub AreBands : Band → List ℕ → List Pkt → Type 0
AreBands band bytes [] = bytes ≡ []
AreBands band bytes (packet ∷ packets) =
    (part : List ℕ) × (more : List ℕ) × (bytes ≡ part ++ more) × (0 < length part) × (length part < longest_payload)
    × (packet ≡ band_packet band part) × AreBands band more packets

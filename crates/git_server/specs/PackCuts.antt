-- Bytes of packets that differ only in how a pack is cut into packets.
use Rattle.std.specs.Prelude.{◌≡◌, ℕ, ◌==◌, List, [], ◌∷◌, map, if◌then◌else◌}
use Rattle.std.specs.List.{flat_map}
use Rattle.git_pkt.specs.Packets.{Pkt, payload}
use Rattle.git_server.specs.Answers.{AllFit, spelled}

-- the contents of a packet, however a pack is cut: each of its bytes on the pack's band, or the packet as it is
pub data Content : Type 0 where
  pack_byte : ℕ → Content
  packet : Pkt → Content

abbrev pub payload_contents : List ℕ → List Content
payload_contents [] = packet (payload []) ∷ []
payload_contents (band ∷ bytes) = if band == 1 then map pack_byte bytes else packet (payload (band ∷ bytes)) ∷ []

abbrev pub contents_of : Pkt → List Content
contents_of (payload bytes) = payload_contents bytes
contents_of p = packet p ∷ []

-- the contents of packets, one after the other
abbrev pub contents_of_all : List Pkt → List Content
contents_of_all = flat_map contents_of

-- the bytes are packets, and so are the others: they contain the same
pub record AreSameButForCuts (bytes others : List ℕ) : Type 0 where
  pub packets : List Pkt
  pub other_packets : List Pkt
  pub fit : AllFit packets
  pub others_fit : AllFit other_packets
  pub bytes_are : bytes ≡ spelled packets
  pub others_are : others ≡ spelled other_packets
  pub same : contents_of_all packets ≡ contents_of_all other_packets

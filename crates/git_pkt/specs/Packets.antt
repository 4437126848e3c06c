-- Packets, and how bytes spell them.
use Rattle.std.specs.Prelude.{◌≡◌, ℕ, suc, ◌+◌, ◌-◌, ◌≤◌, List, [], ◌∷◌, ◌++◌, length, take, drop, slice_index, nat_lt, ◌==◌, ◌&&◌, if◌then◌else◌}
use Rattle.git_pkt.specs.Digits.{HasDigits, digits_value, digits_of}
use Rattle.git_pkt.specs.declared.packet.Packet.{Packet}
use Rattle.git_pkt.specs.declared.packet.Packet.TheVariants.{Flush, Delim, RespEnd, Payload}

-- a packet, wherever its bytes lie
pub data Pkt : Type 0 where
  flush : Pkt
  delim : Pkt
  resp_end : Pkt
  payload : List ℕ → Pkt

-- how many of the packets are flushes
abbrev pub flushes : List Pkt → ℕ
flushes [] = 0
flushes (flush ∷ packets) = suc (flushes packets)
flushes (packet ∷ packets) = flushes packets

-- the packet that a borrowed one shows
abbrev pub seen : Packet → Pkt
seen Flush = flush
seen Delim = delim
seen RespEnd = resp_end
seen (Payload bytes) = payload bytes.now

-- the number in a packet's four digits
abbrev pub length_field : Pkt → ℕ
length_field flush = 0
length_field delim = 1
length_field resp_end = 2
length_field (payload bytes) = length bytes + 4

-- the bytes after the four digits
abbrev pub body_of : Pkt → List ℕ
body_of flush = []
body_of delim = []
body_of resp_end = []
body_of (payload bytes) = bytes

-- how many bytes a packet has after its four digits, at most
abbrev pub longest_payload : ℕ
longest_payload = 65516

-- the bytes s spell the packet p
pub record Spells (p : Pkt) (s : List ℕ) : Type 0 where
  pub digits : HasDigits s
  pub field : digits_value s ≡ length_field p
  pub body : drop 4 s ≡ body_of p
  pub fits : length (body_of p) ≤ longest_payload

-- the spelling that is written, with digits in lower case
abbrev pub spelling_of : Pkt → List ℕ
spelling_of p = digits_of (length_field p) ++ body_of p

-- a payload's text: the payload without the LF at its end, if it ends with one
abbrev pub text_of : List ℕ → List ℕ
text_of bytes =
    if nat_lt 0 (length bytes) && (slice_index bytes (length bytes - 1) == 10) then take (length bytes - 1) bytes else bytes

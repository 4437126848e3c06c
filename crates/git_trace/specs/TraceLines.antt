-- A line of a text that GIT_TRACE_PACKET wrote: `12:34:56.789012 pkt-line.c:80  packet:        clone< version 2`.
use Rattle.std.specs.Prelude.{ℕ, ◌==◌, ◌&&◌, Bool, not, List, [], ◌∷◌, length, take, drop, slice_index}
use Rattle.std.specs.Prelude.{Option, None, Some, codes, nat_eq, nat_lt, ◌-◌, ◌||◌, if◌then◌else◌}
use Rattle.std.specs.List.{prefix_len, starts_with}
use Rattle.std.specs.Str.{bytes_eq}
use Rattle.git_trace.specs.Escapes.{unescaped}
use Rattle.git_trace.specs.declared.trace_lines.Direction.{Direction}
use Rattle.git_trace.specs.declared.trace_lines.Direction.TheVariants.{Received, Sent}
use Rattle.git_trace.specs.declared.trace_lines.TraceLine.{TraceLine}
use Rattle.git_trace.specs.declared.trace_lines.TracePacket.{TracePacket}
use Rattle.git_trace.specs.declared.trace_lines.TracePacket.TheVariants.{Flush, Delim, RespEnd, Pack, Text}

-- what a line has of a packet: bytes of a pack are not written, and a payload is the text that is written for its bytes
pub data LineContent : Type 0 where
  flush : LineContent
  delim : LineContent
  resp_end : LineContent
  pack : LineContent
  payload : List ℕ → LineContent

-- which process wrote a line, whether it received or sent the packet, and what the line has of it
pub record Traced : Type 0 where
  pub name : List ℕ
  pub direction : Direction
  pub content : LineContent

-- a line that borrows its bytes
abbrev pub stated_by : TracePacket → LineContent
stated_by Flush = flush
stated_by Delim = delim
stated_by RespEnd = resp_end
stated_by Pack = pack
stated_by (Text content) = payload content.now

abbrev pub seen_line : TraceLine → Traced
seen_line line = record { name = line.name.now; direction = line.direction; content = stated_by line.packet }

-- ---- the parts of a line

-- a line without the CR that may stand before its LF
abbrev pub without_return : List ℕ → List ℕ
without_return line =
    if nat_lt 0 (length line) && (slice_index line (length line - 1) == 13) then take (length line - 1) line else line

-- what follows the first `packet: ` of a line: before it stand the time and the place in Git's sources
abbrev pub after_word : List ℕ → Option (List ℕ)
after_word [] = None
after_word (b ∷ line) = if starts_with nat_eq (b ∷ line) (codes "packet: ") then Some (drop 8 (b ∷ line)) else after_word line

abbrev pub is_space : ℕ → Bool
is_space b = b == 32

-- a byte of a process's name: printable, and no space, `<` or `>`
abbrev pub is_name_byte : ℕ → Bool
is_name_byte b = nat_lt 32 b && nat_lt b 127 && not (b == 60) && not (b == 62)

abbrev pub without_spaces : List ℕ → List ℕ
without_spaces text = drop (prefix_len is_space text) text

-- which texts stand for packets without bytes, and for bytes of a pack
abbrev pub content_in : List ℕ → LineContent
content_in content =
    if bytes_eq content (codes "0000")
    then flush
    else (if bytes_eq content (codes "0001")
    then delim
    else (if bytes_eq content (codes "0002") then resp_end else (if bytes_eq content (codes "PACK ...") then pack else payload content)))

-- behind the name stand the direction, a space and the content
abbrev pub after_name : List ℕ → List ℕ → Option Traced
after_name name content =
    if starts_with nat_eq content (codes "< ")
    then Some (record { name = name; direction = Received; content = content_in (drop 2 content) })
    else (if starts_with nat_eq content (codes "> ")
    then Some (record { name = name; direction = Sent; content = content_in (drop 2 content) })
    else None)

abbrev pub in_parts : List ℕ → Option Traced
in_parts parts =
    if prefix_len is_name_byte parts == 0
    then None
    else after_name (take (prefix_len is_name_byte parts) parts) (drop (prefix_len is_name_byte parts) parts)

abbrev pub behind_word : Option (List ℕ) → Option Traced
behind_word None = None
behind_word (Some parts) = in_parts (without_spaces parts)

-- what a line has, if it is one of a packet
abbrev pub traced_in : List ℕ → Option Traced
traced_in line = behind_word (after_word (without_return line))

-- ---- a packet's bytes

-- the process that takes bands apart writes the band's byte first
abbrev pub has_band : List ℕ → Bool
has_band content = starts_with nat_eq content (codes "\\1") || starts_with nat_eq content (codes "\\2") || starts_with nat_eq content (codes "\\3")

abbrev pub banded : List ℕ → List ℕ
banded content = if has_band content then (slice_index content 1 - 48) ∷ unescaped (drop 2 content) else unescaped content

-- the bytes that are read of a content, by the name of the process
abbrev pub bytes_in : List ℕ → List ℕ → List ℕ
bytes_in name content = if bytes_eq name (codes "sideband") then banded content else unescaped content

-- The lines that show packets.
use Rattle.std.specs.Prelude.{ℕ, List, [], ◌∷◌, ◌++◌, length, codes, decimal}
use Rattle.std.specs.List.{flat_map}
use Rattle.git_pkt.specs.Packets.{Pkt, flush, delim, resp_end, payload, body_of}
use Rattle.git_pkt.specs.Splits.{Given}
use Rattle.git_pkt.specs.Escape.{escaped_of}

-- the space before a payload; an empty one has none
abbrev pub space_before : List ℕ → List ℕ
space_before [] = []
space_before (b ∷ bytes) = codes " "

-- the kind of a packet, and of a data packet the length
abbrev pub kind_shown : Pkt → List ℕ
kind_shown flush = codes " flush"
kind_shown delim = codes " delim"
kind_shown resp_end = codes " end"
kind_shown (payload bytes) = codes " data " ++ decimal (length bytes) ++ space_before bytes

-- the line of a packet: its offset, its kind, and of a data packet the length and the payload, escaped
abbrev pub line_of : Given → List ℕ
line_of g = (decimal g.offset ++ kind_shown g.packet) ++ escaped_of (body_of g.packet) ++ codes "\n"

abbrev pub lines_of : List Given → List ℕ
lines_of given = flat_map line_of given

-- A packet as one JSON object on a line.
use Rattle.std.specs.Prelude.{ℕ, ◌/◌, ◌%◌, Bool, true, false, List, [], ◌∷◌, ◌++◌, length, codes, decimal, flat_map}
use Rattle.std.specs.Str.{is_utf8}
use Rattle.json.specs.Print.{print, escape_byte}
use Rattle.json.specs.Json.{Json, number, string, object, Members, no_members, member}
use Rattle.json.specs.Tree.{json_tokens}
use Rattle.git_names.specs.Digits.{lower_digit}
use Rattle.git_pkt.specs.Packets.{Pkt, flush, delim, resp_end, payload, body_of}
use Rattle.git_pkt.specs.Splits.{Given}
use Rattle.git2show_lib.specs.declared.json_lines.Coding.{Coding}

-- two digits for each byte
abbrev pub hex_pair : ℕ → List ℕ
hex_pair b = lower_digit (b / 16 % 16) ∷ lower_digit (b % 16) ∷ []

-- a payload that is UTF-8 is a text, and any other is shown by digits
abbrev pub coding_of : Bool → Coding
coding_of true = Coding.Text
coding_of false = Coding.Hex

abbrev pub payload_member : Coding → List ℕ → Members
payload_member Coding.Text bytes = member (codes "payload") (string bytes) no_members
payload_member Coding.Hex bytes = member (codes "hex") (string (flat_map hex_pair bytes)) no_members

abbrev pub kind_members : Pkt → Members
kind_members flush = member (codes "kind") (string (codes "flush")) no_members
kind_members delim = member (codes "kind") (string (codes "delim")) no_members
kind_members resp_end = member (codes "kind") (string (codes "end")) no_members
kind_members (payload bytes) =
    member (codes "kind") (string (codes "data"))
    (member (codes "length") (number (decimal (length bytes))) (payload_member (coding_of (is_utf8 bytes)) bytes))

-- the object of a packet
abbrev pub json_value : Given → Json
json_value g = object (member (codes "offset") (number (decimal g.offset)) (kind_members g.packet))

abbrev pub json_line : Given → List ℕ
json_line g = print (json_tokens (json_value g)) ++ codes "\n"

-- ---- the parts of a line, as they are written one after another

-- what a byte of a payload becomes inside the quotes
abbrev pub coded : Coding → ℕ → List ℕ
coded Coding.Text = escape_byte
coded Coding.Hex = hex_pair

abbrev pub payload_key : Coding → List ℕ
payload_key Coding.Text = codes ",\"payload\":\""
payload_key Coding.Hex = codes ",\"hex\":\""

abbrev pub kind_start : Pkt → List ℕ
kind_start flush = codes "\"flush\""
kind_start delim = codes "\"delim\""
kind_start resp_end = codes "\"end\""
kind_start (payload bytes) = codes "\"data\",\"length\":" ++ decimal (length bytes) ++ payload_key (coding_of (is_utf8 bytes))

-- all that is before the bytes of the payload
abbrev pub json_start : Given → List ℕ
json_start g = codes "{\"offset\":" ++ decimal g.offset ++ codes ",\"kind\":" ++ kind_start g.packet

-- all that is after them
abbrev pub json_end : Pkt → List ℕ
json_end (payload bytes) = codes "\"}\n"
json_end packet = codes "}\n"

abbrev pub payload_coded : Pkt → List ℕ
payload_coded packet = flat_map (coded (coding_of (is_utf8 (body_of packet)))) (body_of packet)

-- How a packet of a trace is shown on a line.
use Rattle.std.specs.Prelude.{ℕ, ◌-◌, Bool, true, false, min, nat_eq, nat_le, replicate, List, [], ◌∷◌, ◌++◌}
use Rattle.std.specs.Prelude.{Option, None, Some, length, take, drop, codes, if◌then◌else◌}
use Rattle.std.specs.List.{list_any, starts_with}
use Rattle.std.specs.Str.{bytes_eq}
use Rattle.git_pkt.specs.Escape.{escaped_of}
use Rattle.git_trace.specs.declared.labels.Label.{Label}
use Rattle.git_trace.specs.declared.shown_lines.Look.{Look}
use Rattle.git_trace.specs.declared.shown_lines.Look.TheVariants.{Lines, Columns}
use Rattle.git_trace.specs.declared.trace_lines.Direction.{Direction}
use Rattle.git_trace.specs.declared.trace_lines.Direction.TheVariants.{Received, Sent}
use Rattle.git_trace.specs.TraceLines.{LineContent, Traced, flush, delim, resp_end, pack, payload, bytes_in, traced_in}

-- ---- lines for programs

abbrev pub arrow : Direction → List ℕ
arrow Received = codes "<"
arrow Sent = codes ">"

abbrev pub payload_shown : List ℕ → List ℕ
payload_shown [] = []
payload_shown (b ∷ bytes) = 32 ∷ escaped_of (b ∷ bytes)

abbrev pub kind_word : LineContent → List ℕ
kind_word flush = codes " flush"
kind_word delim = codes " delim"
kind_word resp_end = codes " end"
kind_word pack = codes " pack"
kind_word (payload content) = codes " data"

-- with the packet's bytes
abbrev pub plain_line : Traced → List ℕ → List ℕ
plain_line t bytes = t.name ++ codes " " ++ arrow t.direction ++ kind_word t.content ++ payload_shown bytes ++ codes "\n"

-- ---- lines of columns

-- the lines that sections of an answer to `fetch` begin with
abbrev pub sections : List (List ℕ)
sections = codes "acknowledgments" ∷ codes "shallow-info" ∷ codes "wanted-refs" ∷ codes "packfile-uris" ∷ codes "packfile" ∷ []

-- what bytes begin
abbrev pub label_in : List ℕ → Label
label_in bytes =
    if starts_with nat_eq bytes (2 ∷ [])
    then Label.Progress
    else (if starts_with nat_eq bytes (3 ∷ [])
    then Label.Fatal
    else (if starts_with nat_eq bytes (codes "command=")
    then Label.Command
    else (if list_any (bytes_eq bytes) sections then Label.Section else (if starts_with nat_eq bytes (codes "ERR ") then Label.Refusal else Label.Data))))

abbrev pub label_of : LineContent → List ℕ → Label
label_of flush bytes = Label.Flush
label_of delim bytes = Label.Delim
label_of resp_end bytes = Label.End
label_of pack bytes = Label.Pack
label_of (payload content) bytes = label_in bytes

abbrev pub name_of : Label → List ℕ
name_of Label.Flush = codes "flush"
name_of Label.Delim = codes "delim"
name_of Label.End = codes "end"
name_of Label.Command = codes "command"
name_of Label.Section = codes "section"
name_of Label.Pack = codes "pack"
name_of Label.Progress = codes "progress"
name_of Label.Fatal = codes "error"
name_of Label.Refusal = codes "error"
name_of Label.Data = codes "data"

-- what switches a colour on, for a terminal
abbrev pub colour_of : Label → List ℕ
colour_of Label.Flush = codes "\u{1b}[2m"
colour_of Label.Delim = codes "\u{1b}[2m"
colour_of Label.End = codes "\u{1b}[2m"
colour_of Label.Command = codes "\u{1b}[1;36m"
colour_of Label.Section = codes "\u{1b}[33m"
colour_of Label.Pack = codes "\u{1b}[34m"
colour_of Label.Progress = codes "\u{1b}[32m"
colour_of Label.Fatal = codes "\u{1b}[1;31m"
colour_of Label.Refusal = codes "\u{1b}[1;31m"
colour_of Label.Data = codes "\u{1b}[0m"

abbrev pub named : Bool → Label → List ℕ
named true label = colour_of label ++ name_of label ++ codes "\u{1b}[0m"
named false label = name_of label

abbrev pub spaces : ℕ → List ℕ
spaces n = replicate n 32

-- a text that is longer than its width is cut, and ends with two dots
abbrev pub cut : ℕ → List ℕ → List ℕ
cut space bytes = if nat_le (length bytes) space then bytes else take (space - 2) bytes ++ codes ".."

-- the process's name in its column
abbrev pub name_column : List ℕ → List ℕ
name_column name = spaces (14 - length name) ++ cut 14 name

-- the bytes without their band
abbrev pub bytes_shown : Label → List ℕ → List ℕ
bytes_shown Label.Progress bytes = drop 1 bytes
bytes_shown Label.Fatal bytes = drop 1 bytes
bytes_shown label bytes = bytes

-- the text in its column
abbrev pub in_column : Label → ℕ → List ℕ → List ℕ
in_column label space [] = []
in_column label space (b ∷ bytes) = spaces (10 - length (name_of label)) ++ cut space (b ∷ bytes)

-- the maximum number of columns of a line, and how many stand before the text
abbrev pub widest : ℕ
widest = 200

abbrev pub columns_before : ℕ
columns_before = 28

-- how many bytes at the front of a text are shown, at most
abbrev pub longest_front : ℕ
longest_front = 1024

abbrev pub text_column : ℕ → Label → List ℕ → List ℕ
text_column width label bytes =
    in_column label (min width widest - columns_before) (escaped_of (take longest_front (bytes_shown label bytes)))

abbrev pub process_columns : List ℕ → Direction → List ℕ
process_columns name direction = name_column name ++ codes " " ++ arrow direction ++ codes "  "

abbrev pub labelled_line : Bool → ℕ → Label → Traced → List ℕ → List ℕ
labelled_line colours width label t bytes =
    process_columns t.name t.direction ++ named colours label ++ text_column width label bytes ++ codes "\n"

-- with the packet's bytes
abbrev pub column_line : Bool → ℕ → Traced → List ℕ → List ℕ
column_line colours width t bytes = labelled_line colours width (label_of t.content bytes) t bytes

-- ---- the line of a packet, and of a line of a trace

abbrev pub content_bytes : List ℕ → LineContent → List ℕ
content_bytes name (payload content) = bytes_in name content
content_bytes name content = []

abbrev pub line_with : Look → Traced → List ℕ → List ℕ
line_with Lines t bytes = plain_line t bytes
line_with (Columns colours width) t bytes = column_line colours width t bytes

abbrev pub line_of : Look → Traced → List ℕ
line_of look t = line_with look t (content_bytes t.name t.content)

abbrev pub shown_if : Look → Option Traced → List ℕ
shown_if look None = []
shown_if look (Some t) = line_of look t

-- a line that is none of a packet is passed over
abbrev pub shown_line : Look → List ℕ → List ℕ
shown_line look line = shown_if look (traced_in line)

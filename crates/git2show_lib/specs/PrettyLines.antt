-- A packet on a line of columns, for a reader who looks at a conversation.
use Rattle.std.specs.Prelude.{ℕ, ◌≤◌, ◌+◌, ◌-◌, ◌==◌, ◌||◌, ◌&&◌, Bool, true, false, max, min, nat_eq}
use Rattle.std.specs.Prelude.{nat_le, replicate, List, [], ◌∷◌, ◌++◌, length, take, drop, codes, decimal, if◌then◌else◌}
use Rattle.std.specs.List.{list_any, prefix_len, starts_with}
use Rattle.std.specs.Str.{bytes_eq}
use Rattle.git_names.specs.Digits.{is_lower_digit}
use Rattle.git_pkt.specs.Escape.{escaped_of}
use Rattle.git_pkt.specs.Packets.{Pkt, flush, delim, resp_end, payload, body_of, text_of}
use Rattle.git_pkt.specs.Splits.{Given}
use Rattle.git2show_lib.specs.declared.pretty.Label.{Label}

-- ---- what a packet is

-- the lines that sections of an answer to `fetch` begin with
abbrev pub sections : List (List ℕ)
sections = codes "acknowledgments" ∷ codes "shallow-info" ∷ codes "wanted-refs" ∷ codes "packfile-uris" ∷ codes "packfile" ∷ []

-- in the packfile section, the band of a payload
abbrev pub band_label : List ℕ → Label
band_label bytes =
    if starts_with nat_eq bytes (1 ∷ [])
    then Label.Pack
    else (if starts_with nat_eq bytes (2 ∷ []) then Label.Progress else (if starts_with nat_eq bytes (3 ∷ []) then Label.Fatal else Label.Data))

-- elsewhere, what the text of a payload begins
abbrev pub line_label : List ℕ → Label
line_label text =
    if starts_with nat_eq text (codes "command=")
    then Label.Command
    else (if list_any (bytes_eq text) sections then Label.Section else (if starts_with nat_eq text (codes "ERR ") then Label.Refusal else Label.Data))

-- what a packet is, by whether it stands in the packfile section
abbrev pub label_of : Bool → Pkt → Label
label_of in_pack flush = Label.Flush
label_of in_pack delim = Label.Delim
label_of in_pack resp_end = Label.End
label_of true (payload bytes) = band_label bytes
label_of false (payload bytes) = line_label (text_of bytes)

-- ---- the columns

abbrev pub name_of : Label → List ℕ
name_of Label.Flush = codes "flush"
name_of Label.Delim = codes "delim"
name_of Label.End = codes "end"
name_of Label.Command = codes "command"
name_of Label.Section = codes "section"
name_of Label.Pack = codes "pack"
name_of Label.Progress = codes "progress"
name_of Label.Fatal = codes "error"
name_of Label.Refusal = codes "error"
name_of Label.Data = codes "data"

-- what switches a colour on, for a terminal
abbrev pub colour_of : Label → List ℕ
colour_of Label.Flush = codes "\u{1b}[2m"
colour_of Label.Delim = codes "\u{1b}[2m"
colour_of Label.End = codes "\u{1b}[2m"
colour_of Label.Command = codes "\u{1b}[1;36m"
colour_of Label.Section = codes "\u{1b}[33m"
colour_of Label.Pack = codes "\u{1b}[34m"
colour_of Label.Progress = codes "\u{1b}[32m"
colour_of Label.Fatal = codes "\u{1b}[1;31m"
colour_of Label.Refusal = codes "\u{1b}[1;31m"
colour_of Label.Data = codes "\u{1b}[0m"

abbrev pub named : Bool → Label → List ℕ
named true label = colour_of label ++ name_of label ++ codes "\u{1b}[0m"
named false label = name_of label

abbrev pub spaces : ℕ → List ℕ
spaces n = replicate n 32

-- spaces before a text that is shorter than its column
abbrev pub right : ℕ → List ℕ → List ℕ
right width text = spaces (width - length text) ++ text

-- of a run of digits in lower case as long as an object name twelve stay
abbrev pub is_name_length : ℕ → Bool
is_name_length n = n == 40 || n == 64

abbrev pub run_length : List ℕ → ℕ
run_length bytes = prefix_len is_lower_digit bytes

-- how many bytes are shown where a run begins, or none
abbrev pub run_shown : ℕ → ℕ
run_shown n = if n == 0 then 1 else (if is_name_length n then 12 else n)

-- what stays of the bytes after so many digits of a run
abbrev pub shortened_after : ℕ → List ℕ → List ℕ
shortened_after k [] = []
shortened_after k (b ∷ bytes) =
    if is_lower_digit b
    then (if nat_le 12 k && is_name_length (k + (1 + run_length bytes)) then [] else b ∷ []) ++ shortened_after (k + 1) bytes
    else b ∷ shortened_after 0 bytes

abbrev pub shortened : List ℕ → List ℕ
shortened = shortened_after 0

-- a text that is longer than its width is cut, and ends with two dots
abbrev pub cut : ℕ → List ℕ → List ℕ
cut space text = if nat_le (length text) space then text else take (space - 2) text ++ codes ".."

-- the length of a payload
abbrev pub length_shown : Pkt → List ℕ
length_shown (payload bytes) = decimal (length bytes)
length_shown packet = []

-- the payload without its band, and without the LF at its end
abbrev pub text_shown : Label → List ℕ → List ℕ
text_shown Label.Pack bytes = drop 1 bytes
text_shown Label.Progress bytes = text_of (drop 1 bytes)
text_shown Label.Fatal bytes = text_of (drop 1 bytes)
text_shown label bytes = text_of bytes

-- what a line has before the text: the offset, the length, and what the packet is
abbrev pub columns : Bool → Label → Given → List ℕ
columns colours label g = right 8 (decimal g.offset) ++ codes " " ++ right 5 (length_shown g.packet) ++ codes "  " ++ named colours label

-- the text in its column
abbrev pub in_column : Label → ℕ → List ℕ → List ℕ
in_column label space [] = []
in_column label space (b ∷ text) = spaces (10 - length (name_of label)) ++ cut space (b ∷ text)

-- how many bytes at the front of a text are shown, at most
abbrev pub longest_front : ℕ
longest_front = 1024

-- the maximum number of columns of a line
abbrev pub widest : ℕ
widest = 200

-- the columns before the text
abbrev pub columns_before : ℕ → ℕ
columns_before offset = max 8 (length (decimal offset)) + 18

abbrev pub text_column : ℕ → Label → Given → List ℕ
text_column width label g =
    in_column label (min width widest - columns_before g.offset) (escaped_of (shortened (take longest_front (text_shown label (body_of g.packet)))))

abbrev pub labelled_line : Bool → ℕ → Label → Given → List ℕ
labelled_line colours width label g = columns colours label g ++ text_column width label g ++ codes "\n"

-- the line of a packet, for a terminal with so many columns
abbrev pub pretty_line : Bool → ℕ → Bool → Given → List ℕ
pretty_line colours width in_pack g = labelled_line colours width (label_of in_pack g.packet) g

-- a byte that takes one column of a terminal
abbrev pub IsPrintable : ℕ → Type 0
IsPrintable b = (32 ≤ b) × (b ≤ 126)

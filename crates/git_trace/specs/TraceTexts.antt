-- The lines of a text, and what is shown of them.
use Rattle.std.specs.Prelude.{ℕ, ◌+◌, ◌==◌, ◌||◌, Bool, true, false, nat_lt, List, [], ◌∷◌, ◌++◌, Option, None, Some, length, if◌then◌else◌}
use Rattle.std.specs.List.{flat_map}
use Rattle.git_trace.specs.TraceLines.{Traced, traced_in}
use Rattle.git_trace.specs.ShownLines.{shown_line}
use Rattle.git_trace.specs.declared.shown_lines.Look.{Look}

-- the lines that an LF ends, where the bytes `begun` stand before the text
abbrev pub lines_after : List ℕ → List ℕ → List (List ℕ)
lines_after begun [] = []
lines_after begun (b ∷ text) = if b == 10 then begun ∷ lines_after [] text else lines_after (begun ++ b ∷ []) text

-- the bytes after the last LF
abbrev pub left_after : List ℕ → List ℕ → List ℕ
left_after begun [] = begun
left_after begun (b ∷ text) = if b == 10 then left_after [] text else left_after (begun ++ b ∷ []) text

-- the greatest length of a line without its LF
abbrev pub longest_line : ℕ
longest_line = 1048576

-- a line, or what has come of it, is longer
abbrev pub has_long : List ℕ → List ℕ → Bool
has_long begun [] = false
has_long begun (b ∷ text) =
    if b == 10 then has_long [] text else (nat_lt longest_line (length begun + 1) || has_long (begun ++ b ∷ []) text)

abbrev pub is_some : Option Traced → Bool
is_some None = false
is_some (Some t) = true

abbrev pub is_packet_line : List ℕ → Bool
is_packet_line line = is_some (traced_in line)

-- what is shown of lines: of each that is one of a packet its line, in order
abbrev pub shown_lines : Look → List (List ℕ) → List ℕ
shown_lines look lines = flat_map (shown_line look) lines

-- a last line that no LF ends
abbrev pub last_line : List ℕ → List (List ℕ)
last_line [] = []
last_line (b ∷ left) = (b ∷ left) ∷ []

-- all lines of a text
abbrev pub lines_of : List ℕ → List (List ℕ)
lines_of text = lines_after [] text ++ last_line (left_after [] text)

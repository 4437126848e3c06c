-- What is shown of a packet is one line.
use Rattle.std.proofs.Common.{◌≡◌, ℕ, ◌+◌, ◌-◌, ◌/◌, ◌%◌, ◌==◌, Bool, true, false, ◌&&◌, nat_eq, nat_le, zero, suc, List, [], ◌∷◌, ◌++◌, Option, None, Some}
use Rattle.std.proofs.Common.{codes, length, take, drop, refl, ap, arith, min, subst, get_or}
use Rattle.std.specs.List.{list_all, prefix_len, starts_with}
use Rattle.std.proofs.lemmas.Bool.{and_parts}
use Rattle.git_names.specs.Digits.{lower_digit}
use Rattle.git_pkt.specs.Escape.{escape_of, escaped_of}
use Rattle.git_trace.specs.declared.labels.Label.{Label}
use Rattle.git_trace.specs.declared.shown_lines.Look.{Look}
use Rattle.git_trace.specs.declared.shown_lines.Look.TheVariants.{Lines, Columns}
use Rattle.git_trace.specs.declared.trace_lines.Direction.{Direction}
use Rattle.git_trace.specs.declared.trace_lines.Direction.TheVariants.{Received, Sent}
use Rattle.git_trace.specs.Escapes.{is_written}
use Rattle.git_trace.specs.TraceLines.{LineContent, Traced, flush, delim, resp_end, pack, payload}
use Rattle.git_trace.specs.TraceLines.{after_name, after_word, behind_word, in_parts, is_name_byte, traced_in, without_return, without_spaces}
use Rattle.git_trace.specs.ShownLines.{arrow, colour_of, cut, in_column, kind_word, label_of, line_of, name_column}
use Rattle.git_trace.specs.ShownLines.{name_of, named, payload_shown, process_columns, content_bytes, spaces, text_column, bytes_shown, widest}
use Rattle.git_trace.specs.ShownLines.{columns_before, longest_front}

-- no LF
abbrev pub OnLine : List ℕ → Type 0
OnLine bytes = list_all is_written bytes ≡ true

pub joined : (s t : List ℕ) → OnLine s → OnLine t → OnLine (s ++ t)
joined [] t e f = f
joined (b ∷ s) t e f =
    let parts = and_parts (is_written b) (list_all is_written s) e in
    rw parts.0 (joined s t parts.1 f)

front : (n : ℕ) (s : List ℕ) → OnLine s → OnLine (take n s)
front zero s e = refl
front (suc n) [] e = refl
front (suc n) (b ∷ s) e =
    let parts = and_parts (is_written b) (list_all is_written s) e in
    rw parts.0 (front n s parts.1)

spaces_on : (n : ℕ) → OnLine (spaces n)
spaces_on zero = refl
spaces_on (suc n) = spaces_on n

at_on : (s : List ℕ) (n : ℕ) → OnLine s → is_written (get_or s n 0) ≡ true
at_on [] n e = refl
at_on (b ∷ s) zero e = (and_parts (is_written b) (list_all is_written s) e).0
at_on (b ∷ s) (suc n) e = at_on s n (and_parts (is_written b) (list_all is_written s) e).1

digit_on : (n : ℕ) → is_written (lower_digit n) ≡ true
unfolding lower_digit
digit_on n = at_on (codes "0123456789abcdef") n refl

escape_by : (b : ℕ) (lf backslash printable : Bool) → (b == 10) ≡ lf → (b == 92) ≡ backslash → nat_le 32 b && nat_le b 126 ≡ printable
    → OnLine (escape_of b)
unfolding escape_of
escape_by b true backslash printable e f g = rw e refl
escape_by b false true printable e f g = rw (e, f) refl
escape_by b false false true e f g = rw (e, f, g, e) refl
escape_by b false false false e f g = rw (e, f, g, digit_on (b / 16), digit_on (b % 16)) refl

escaped_on : (bytes : List ℕ) → OnLine (escaped_of bytes)
escaped_on [] = refl
escaped_on (b ∷ bytes) =
    joined (escape_of b) (escaped_of bytes) (escape_by b (b == 10) (b == 92) (nat_le 32 b && nat_le b 126) refl refl refl) (escaped_on bytes)

name_byte_on : (b : ℕ) → is_name_byte b ≡ true → is_written b ≡ true
name_byte_on b e = grind (arith)

name_on : (parts : List ℕ) → OnLine (take (prefix_len is_name_byte parts) parts)
name_on [] = refl
name_on (b ∷ parts) = at (is_name_byte b) refl (name_on parts) where
  at : (fits : Bool) → is_name_byte b ≡ fits → OnLine (take (prefix_len is_name_byte parts) parts)
      → OnLine (take (prefix_len is_name_byte (b ∷ parts)) (b ∷ parts))
  at true e next =
      let more : 1 + prefix_len is_name_byte parts ≡ suc (prefix_len is_name_byte parts) = omega arith in
      rw (e, more, name_byte_on b e) next
  at false e next = rw e refl

-- ---- the name of a line

name_in : List ℕ → Option Traced → List ℕ
name_in name None = name
name_in name (Some t) = t.name

name_same : (name : List ℕ) (u t : Traced) → Some u ≡ Some t → u.name ≡ t.name
unfolding name_in
name_same name u t e = ap (name_in name) e

after_name_is : (name content : List ℕ) (t : Traced) → after_name name content ≡ Some t → name ≡ t.name
after_name_is name content t e = at (starts_with nat_eq content (codes "< ")) (starts_with nat_eq content (codes "> ")) refl refl where
  at : (received sent : Bool) → starts_with nat_eq content (codes "< ") ≡ received → starts_with nat_eq content (codes "> ") ≡ sent → name ≡ t.name
  at true sent f g = name_same name _ t (rw f at e)
  at false true f g = name_same name _ t (rw (f, g) at e)
  at false false f g = let is = rw (f, g) at e in absurd (cc)

in_parts_on : (parts : List ℕ) (t : Traced) → in_parts parts ≡ Some t → OnLine t.name
in_parts_on parts t e = at (prefix_len is_name_byte parts == 0) refl where
  at : (none : Bool) → (prefix_len is_name_byte parts == 0) ≡ none → OnLine t.name
  at true f = let is = rw f at e in absurd (cc)
  at false f =
      let is = rw f at e in
      subst OnLine (after_name_is (take (prefix_len is_name_byte parts) parts) (drop (prefix_len is_name_byte parts) parts) t is) (name_on parts)

behind_on : (parts : Option (List ℕ)) (t : Traced) → behind_word parts ≡ Some t → OnLine t.name
behind_on None t e = absurd (cc)
behind_on (Some parts) t e = in_parts_on (without_spaces parts) t e

-- ---- the line

arrow_on : (direction : Direction) → OnLine (arrow direction)
arrow_on Received = refl
arrow_on Sent = refl

kind_on : (content : LineContent) → OnLine (kind_word content)
kind_on flush = refl
kind_on delim = refl
kind_on resp_end = refl
kind_on pack = refl
kind_on (payload content) = refl

payload_on : (bytes : List ℕ) → OnLine (payload_shown bytes)
payload_on [] = refl
payload_on (b ∷ bytes) = escaped_on (b ∷ bytes)

cut_on : (space : ℕ) (bytes : List ℕ) → OnLine bytes → OnLine (cut space bytes)
cut_on space bytes e = at (nat_le (length bytes) space) refl where
  at : (fits : Bool) → nat_le (length bytes) space ≡ fits → OnLine (cut space bytes)
  at true f = rw f e
  at false f = rw f (joined (take (space - 2) bytes) (codes "..") (front (space - 2) bytes e) refl)

column_on : (label : Label) (space : ℕ) (bytes : List ℕ) → OnLine bytes → OnLine (in_column label space bytes)
column_on label space [] e = refl
column_on label space (b ∷ bytes) e =
    joined (spaces (10 - length (name_of label))) (cut space (b ∷ bytes)) (spaces_on (10 - length (name_of label))) (cut_on space (b ∷ bytes) e)

word_on : (label : Label) → OnLine (name_of label)
word_on Label.Flush = refl
word_on Label.Delim = refl
word_on Label.End = refl
word_on Label.Command = refl
word_on Label.Section = refl
word_on Label.Pack = refl
word_on Label.Progress = refl
word_on Label.Fatal = refl
word_on Label.Refusal = refl
word_on Label.Data = refl

colour_on : (label : Label) → OnLine (colour_of label)
colour_on Label.Flush = refl
colour_on Label.Delim = refl
colour_on Label.End = refl
colour_on Label.Command = refl
colour_on Label.Section = refl
colour_on Label.Pack = refl
colour_on Label.Progress = refl
colour_on Label.Fatal = refl
colour_on Label.Refusal = refl
colour_on Label.Data = refl

named_on : (colours : Bool) (label : Label) → OnLine (named colours label)
named_on true label =
    joined (colour_of label ++ name_of label) (codes "\u{1b}[0m") (joined (colour_of label) (name_of label) (colour_on label) (word_on label)) refl
named_on false label = word_on label

-- what is shown of a packet is a text without an LF, and one
pub line_is_one : (look : Look) (t : Traced) → OnLine t.name → (shown : List ℕ) × (line_of look t ≡ shown ++ codes "\n") × OnLine shown
line_is_one Lines t e =
    let bytes = content_bytes t.name t.content in
    let head = joined (t.name ++ codes " ") (arrow t.direction) (joined t.name (codes " ") e refl) (arrow_on t.direction) in
    let kind = joined (t.name ++ codes " " ++ arrow t.direction) (kind_word t.content) head (kind_on t.content) in (
      t.name ++ codes " " ++ arrow t.direction ++ kind_word t.content ++ payload_shown bytes,
      refl,
      joined (t.name ++ codes " " ++ arrow t.direction ++ kind_word t.content) (payload_shown bytes) kind (payload_on bytes),
    )
line_is_one (Columns colours width) t e =
    let bytes = content_bytes t.name t.content in
    let label = label_of t.content bytes in
    let name = joined (spaces (14 - length t.name)) (cut 14 t.name) (spaces_on (14 - length t.name)) (cut_on 14 t.name e) in
    let arrowed = joined (name_column t.name ++ codes " ") (arrow t.direction) (joined (name_column t.name) (codes " ") name refl) (arrow_on t.direction) in
    let process = joined (name_column t.name ++ codes " " ++ arrow t.direction) (codes "  ") arrowed refl in
    let labelled = joined (process_columns t.name t.direction) (named colours label) process (named_on colours label) in
    let text = column_on label (min width widest - columns_before) (escaped_of (take longest_front (bytes_shown label bytes)))
    (escaped_on (take longest_front (bytes_shown label bytes))) in (
      process_columns t.name t.direction ++ named colours label ++ text_column width label bytes,
      refl,
      joined (process_columns t.name t.direction ++ named colours label) (text_column width label bytes) labelled text,
    )

pub name_is_on : (line : List ℕ) (t : Traced) → traced_in line ≡ Some t → OnLine t.name
name_is_on line t e = behind_on (after_word (without_return line)) t e

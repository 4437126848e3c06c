-- A line of columns has one byte to a column.
use Rattle.std.proofs.Common.{◌≡◌, ℕ, suc, ◌+◌, ◌-◌, ◌/◌, ◌%◌, ◌<◌, ◌≤◌, ◌^◌, ◌==◌, ◌&&◌}
use Rattle.std.proofs.Common.{Bool, true, false, min, nat_le, List, [], ◌∷◌, ◌++◌, length, take, drop, codes}
use Rattle.std.proofs.Common.{decimal, slice_index, nat_lt, zero, sym, subst, refl, arith, if◌then◌else◌}
use Rattle.std.specs.List.{All, list_all}
use Rattle.std.specs.Int.Digits.{AllBelowBase, digits_of}
use Rattle.std.proofs.lemmas.Int.Digits.{all_below_base_digits_of}
use Rattle.std.proofs.lemmas.List.Elements.{All-append, All-cons, All-drop, All-head, All-map, All-nil, All-replicate, All-tail, All-take}
use Rattle.std.proofs.lemmas.Fmt.{decimal_digit, decimal-digits_of}
use Rattle.git_names.specs.Digits.{is_lower_digit, lower_digit}
use Rattle.git_names.proofs.HexDigits.{is_lower_digit-lower_digit}
use Rattle.git_pkt.specs.Packets.{Pkt, flush, delim, resp_end, payload, body_of, text_of, longest_payload}
use Rattle.git_pkt.specs.Escape.{escape_of, escaped_of}
use Rattle.git_pkt.specs.Splits.{Given}
use Rattle.git2show_lib.specs.PrettyLines.{IsPrintable, columns, columns_before, cut, in_column, label_of, length_shown, longest_front, name_of, right}
use Rattle.git2show_lib.specs.PrettyLines.{is_name_length, run_length, shortened, shortened_after, spaces, pretty_line, text_column, text_shown, widest}
use Rattle.git2show_lib.specs.declared.pretty.Label.{Label}

-- ---- what is printable by a test

abbrev test : ℕ → Bool
test b = nat_le 32 b && nat_le b 126

passes : (b : ℕ) → test b ≡ true → IsPrintable b
passes b is = grind (arith)

all_pass : (xs : List ℕ) → list_all test xs ≡ true → All IsPrintable xs
all_pass [] e = All-nil IsPrintable
all_pass (b ∷ xs) e = at (test b) refl e (all_pass xs) where
  at : (c : Bool) → test b ≡ c → (c && list_all test xs) ≡ true → (list_all test xs ≡ true → All IsPrintable xs) → All IsPrintable (b ∷ xs)
  at true f e so = All-cons IsPrintable b xs (passes b f) (so e)
  at false f e so = absurd (cc)

-- ---- numbers

of_digits : (ds : List ℕ) → AllBelowBase 10 ds → All (λ d. IsPrintable (48 + d)) ds
of_digits [] all = All-nil (λ d. IsPrintable (48 + d))
of_digits (d ∷ ds) (below, all) =
    All-cons (λ d. IsPrintable (48 + d)) d ds (omega arith, omega (arith, below)) (of_digits ds all)

number_printable : (n : ℕ) → n < 2 ^ 64 → All IsPrintable (decimal n)
number_printable zero within = subst (All IsPrintable) (sym (decimal_digit 0 (omega arith))) (all_pass (48 ∷ []) refl)
number_printable (suc n) within =
    subst (All IsPrintable) (sym (decimal-digits_of (suc n) (omega arith) within))
    (All-map IsPrintable (λ d. 48 + d) (digits_of 10 (suc n)) (of_digits (digits_of 10 (suc n)) (all_below_base_digits_of 10 (suc n) (omega arith))))

-- ---- texts

abbrev IsByte : ℕ → Type 0
IsByte b = b < 256

all_shortened : (k : ℕ) (bytes : List ℕ) → All IsByte bytes → All IsByte (shortened_after k bytes)
all_shortened k [] all = all
all_shortened k (b ∷ bytes) all =
    at (is_lower_digit b) refl (all_shortened (k + 1) bytes (All-tail IsByte b bytes all)) (all_shortened 0 bytes (All-tail IsByte b bytes all)) where
      one : b < 256
      one = All-head IsByte b bytes all

      front : (c : Bool) → All IsByte (if c then [] else b ∷ [])
      front true = All-nil IsByte
      front false = All-cons IsByte b [] one (All-nil IsByte)

      at : (d : Bool) → is_lower_digit b ≡ d → All IsByte (shortened_after (k + 1) bytes) → All IsByte (shortened_after 0 bytes)
          → All IsByte (shortened_after k (b ∷ bytes))
      at true e on from_none =
          rw e (All-append IsByte (if nat_le 12 k && is_name_length (k + (1 + run_length bytes)) then [] else b ∷ []) (shortened_after (k + 1) bytes)
          (front (nat_le 12 k && is_name_length (k + (1 + run_length bytes)))) on)
      at false e on from_none = rw e (All-cons IsByte b (shortened_after 0 bytes) one from_none)

digit_printable : (c : ℕ) → is_lower_digit c ≡ true → IsPrintable c
digit_printable c is = grind (arith)

escape_printable : (b : ℕ) → b < 256 → All IsPrintable (escape_of b)
unfolding escape_of
escape_printable b below = at (b == 10) refl (b == 92) refl (test b) refl where
  digit : (d : ℕ) → d < 16 → IsPrintable (lower_digit d)
  digit d low = digit_printable (lower_digit d) (is_lower_digit-lower_digit d low)

  at : (line : Bool) → (b == 10) ≡ line → (slash : Bool) → (b == 92) ≡ slash → (own : Bool) → test b ≡ own → All IsPrintable (escape_of b)
  at true e slash f own g = rw e (all_pass (codes "\\n") refl)
  at false e true f own g = rw (e, f) (all_pass (codes "\\\\") refl)
  at false e false f true g = rw (e, f, g) (All-cons IsPrintable b [] (passes b g) (All-nil IsPrintable))
  at false e false f false g =
      let digits =
      All-cons IsPrintable (lower_digit (b / 16)) (lower_digit (b % 16) ∷ []) (digit (b / 16) (omega (arith, below)))
      (All-cons IsPrintable (lower_digit (b % 16)) [] (digit (b % 16) (omega arith)) (All-nil IsPrintable)) in
      rw (e, f, g) (All-append IsPrintable (92 ∷ 120 ∷ []) (lower_digit (b / 16) ∷ lower_digit (b % 16) ∷ []) (all_pass (92 ∷ 120 ∷ []) refl) digits)

escaped_printable : (bytes : List ℕ) → All IsByte bytes → All IsPrintable (escaped_of bytes)
escaped_printable [] all = All-nil IsPrintable
escaped_printable (b ∷ bytes) all =
    All-append IsPrintable (escape_of b) (escaped_of bytes) (escape_printable b (All-head IsByte b bytes all))
    (escaped_printable bytes (All-tail IsByte b bytes all))

all_text : (bytes : List ℕ) → All IsByte bytes → All IsByte (text_of bytes)
all_text bytes all = at (nat_lt 0 (length bytes) && (slice_index bytes (length bytes - 1) == 10)) refl where
  at : (c : Bool) → (nat_lt 0 (length bytes) && (slice_index bytes (length bytes - 1) == 10)) ≡ c → All IsByte (text_of bytes)
  at true e = rw e (All-take IsByte (length bytes - 1) bytes all)
  at false e = rw e all

all_shown : (label : Label) (bytes : List ℕ) → All IsByte bytes → All IsByte (text_shown label bytes)
all_shown Label.Pack bytes all = All-drop IsByte 1 bytes all
all_shown Label.Progress bytes all = all_text (drop 1 bytes) (All-drop IsByte 1 bytes all)
all_shown Label.Fatal bytes all = all_text (drop 1 bytes) (All-drop IsByte 1 bytes all)
all_shown Label.Flush bytes all = all_text bytes all
all_shown Label.Delim bytes all = all_text bytes all
all_shown Label.End bytes all = all_text bytes all
all_shown Label.Command bytes all = all_text bytes all
all_shown Label.Section bytes all = all_text bytes all
all_shown Label.Refusal bytes all = all_text bytes all
all_shown Label.Data bytes all = all_text bytes all

-- ---- columns

name_printable : (label : Label) → All IsPrintable (name_of label)
name_printable Label.Flush = all_pass (name_of Label.Flush) refl
name_printable Label.Delim = all_pass (name_of Label.Delim) refl
name_printable Label.End = all_pass (name_of Label.End) refl
name_printable Label.Command = all_pass (name_of Label.Command) refl
name_printable Label.Section = all_pass (name_of Label.Section) refl
name_printable Label.Pack = all_pass (name_of Label.Pack) refl
name_printable Label.Progress = all_pass (name_of Label.Progress) refl
name_printable Label.Fatal = all_pass (name_of Label.Fatal) refl
name_printable Label.Refusal = all_pass (name_of Label.Refusal) refl
name_printable Label.Data = all_pass (name_of Label.Data) refl

both : (s t : List ℕ) → All IsPrintable s → All IsPrintable t → All IsPrintable (s ++ t)
both s t = All-append IsPrintable s t

spaces_printable : (n : ℕ) → All IsPrintable (spaces n)
spaces_printable n = All-replicate IsPrintable n 32 (omega arith, omega arith)

length_printable : (p : Pkt) → length (body_of p) < 2 ^ 64 → All IsPrintable (length_shown p)
length_printable flush short = All-nil IsPrintable
length_printable delim short = All-nil IsPrintable
length_printable resp_end short = All-nil IsPrintable
length_printable (payload bytes) short = number_printable (length bytes) short

cut_printable : (space : ℕ) (t : List ℕ) → All IsPrintable t → All IsPrintable (cut space t)
cut_printable space t all = at (nat_le (length t) space) refl where
  at : (c : Bool) → nat_le (length t) space ≡ c → All IsPrintable (cut space t)
  at true e = rw e all
  at false e = rw e (both (take (space - 2) t) (codes "..") (All-take IsPrintable (space - 2) t all) (all_pass (codes "..") refl))

column_printable : (label : Label) (space : ℕ) (t : List ℕ) → All IsPrintable t → All IsPrintable (in_column label space t)
column_printable label space [] all = All-nil IsPrintable
column_printable label space (b ∷ t) all =
    both (spaces (10 - length (name_of label))) (cut space (b ∷ t)) (spaces_printable (10 - length (name_of label))) (cut_printable space (b ∷ t) all)

line_printable : (width : ℕ) (label : Label) (g : Given) → g.offset < 2 ^ 64 → length (body_of g.packet) < 2 ^ 64 → All IsByte (body_of g.packet)
    → All IsPrintable (columns false label g ++ text_column width label g)
line_printable width label g offset short bytes =
    let of_offset =
    both (spaces (8 - length (decimal g.offset))) (decimal g.offset) (spaces_printable (8 - length (decimal g.offset))) (number_printable g.offset offset) in
    let of_length =
    both (spaces (5 - length (length_shown g.packet))) (length_shown g.packet) (spaces_printable (5 - length (length_shown g.packet)))
    (length_printable g.packet short) in
    let front = both (right 8 (decimal g.offset)) (codes " ") of_offset (all_pass (codes " ") refl) in
    let lengths = both (right 8 (decimal g.offset) ++ codes " ") (right 5 (length_shown g.packet)) front of_length in
    let before = both (right 8 (decimal g.offset) ++ codes " " ++ right 5 (length_shown g.packet)) (codes "  ") lengths (all_pass (codes "  ") refl) in
    let named = both (right 8 (decimal g.offset) ++ codes " " ++ right 5 (length_shown g.packet) ++ codes "  ") (name_of label) before (name_printable label) in
    let shown =
    escaped_printable (shortened (take longest_front (text_shown label (body_of g.packet))))
    (all_shortened 0 (take longest_front (text_shown label (body_of g.packet)))
    (All-take IsByte longest_front (text_shown label (body_of g.packet)) (all_shown label (body_of g.packet) bytes))) in
    both (columns false label g) (text_column width label g) named
    (column_printable label (min width widest - columns_before g.offset)
    (escaped_of (shortened (take longest_front (text_shown label (body_of g.packet))))) shown)

pub line_is_printable : (width : ℕ) (in_pack : Bool) (g : Given) → g.offset < 2 ^ 64 → length (body_of g.packet) ≤ longest_payload
    → All IsByte (body_of g.packet)
    → (text : List ℕ) × (pretty_line false width in_pack g ≡ text ++ codes "\n") × All IsPrintable text
line_is_printable width in_pack g offset within bytes =
    let label = label_of in_pack g.packet in (
      columns false label g ++ text_column width label g,
      refl,
      line_printable width label g offset (omega (arith, within)) bytes,
    )

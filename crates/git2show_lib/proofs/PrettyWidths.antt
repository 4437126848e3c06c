-- How wide a line of columns is.
use Rattle.std.proofs.Common.{◌≡◌, ℕ, ◌+◌, ◌-◌, ◌<◌, ◌≤◌, ◌^◌, Bool, true, false, max, min, nat_le, List, [], ◌∷◌, ◌++◌, length, take, codes, decimal}
use Rattle.std.proofs.Common.{refl, append_assoc, arith}
use Rattle.std.proofs.lemmas.Bool.{leb-true, leb-false}
use Rattle.std.proofs.lemmas.List.{length-append}
use Rattle.std.proofs.lemmas.Fmt.{length-decimal-le}
use Rattle.std.proofs.lemmas.Grind.{common_steps}
use Rattle.git_pkt.specs.Packets.{Pkt, flush, delim, resp_end, payload, body_of, longest_payload}
use Rattle.git_pkt.specs.Escape.{escaped_of}
use Rattle.git_pkt.specs.Splits.{Given}
use Rattle.git2show_lib.specs.PrettyLines.{colour_of, columns, columns_before, cut, in_column, label_of, length_shown, longest_front, name_of}
use Rattle.git2show_lib.specs.PrettyLines.{pretty_line, right, shortened, text_column, text_shown, widest}
use Rattle.git2show_lib.specs.declared.pretty.Label.{Label}

length_right : (w : ℕ) (t : List ℕ) → length (right w t) ≡ max w (length t)
length_right w t = grind (arith, common_steps)

name_short : (label : Label) → length (name_of label) ≤ 8
name_short Label.Flush = omega arith
name_short Label.Delim = omega arith
name_short Label.End = omega arith
name_short Label.Command = omega arith
name_short Label.Section = omega arith
name_short Label.Pack = omega arith
name_short Label.Progress = omega arith
name_short Label.Fatal = omega arith
name_short Label.Refusal = omega arith
name_short Label.Data = omega arith

length_short : (p : Pkt) → length (body_of p) < 10 ^ 5 → length (length_shown p) ≤ 5
length_short flush short = omega arith
length_short delim short = omega arith
length_short resp_end short = omega arith
length_short (payload bytes) short = length-decimal-le 5 (length bytes) (omega arith) short (omega (arith, short))

cut_short : (space : ℕ) (t : List ℕ) → 2 ≤ space → length (cut space t) ≤ space
cut_short space t some = at (nat_le (length t) space) refl where
  at : (b : Bool) → nat_le (length t) space ≡ b → length (cut space t) ≤ space
  at true e = rw e (leb-true (length t) space e)
  at false e =
      let longer = leb-false (length t) space e in
      rw e (grind (arith, common_steps, longer, some))

module _ (label : Label) (g : Given) (offset : g.offset < 2 ^ 64) (short : length (body_of g.packet) < 10 ^ 5) where
  digits : length (decimal g.offset) ≤ 20
  digits = length-decimal-le 20 g.offset (omega arith) (omega (arith, offset)) offset

  columns_length : length (columns false label g) ≤ max 8 (length (decimal g.offset)) + 8 + length (name_of label)
  columns_length =
      let of_offset = length_right 8 (decimal g.offset) in
      let of_length = length_right 5 (length_shown g.packet) in
      let few = length_short g.packet short in
      grind (arith, common_steps, of_offset, of_length, few)

  text_length : (space : ℕ) (t : List ℕ) → 2 ≤ space → length (name_of label) + length (in_column label space t) ≤ 10 + space
  text_length space [] some = let few = name_short label in grind (arith, common_steps, few)
  text_length space (b ∷ t) some =
      let few = name_short label in
      let narrow = cut_short space (b ∷ t) some in
      grind (arith, common_steps, few, narrow)

-- without colours: the columns and the text, and an LF
pub line_fits : (width : ℕ) (in_pack : Bool) (g : Given) → 40 ≤ width → g.offset < 2 ^ 64 → length (body_of g.packet) ≤ longest_payload
    → (text : List ℕ) × (pretty_line false width in_pack g ≡ text ++ codes "\n") × (length text ≤ min width 200)
line_fits width in_pack g wide offset within =
    let label = label_of in_pack g.packet in
    let short : length (body_of g.packet) < 10 ^ 5 = omega (arith, within) in
    let few = digits label g offset short in
    let before = columns_length label g offset short in
    let space : 2 ≤ min width widest - columns_before g.offset = omega (arith, wide, few) in
    let after =
    text_length label g offset short (min width widest - columns_before g.offset)
    (escaped_of (shortened (take longest_front (text_shown label (body_of g.packet))))) space in
    let both = length-append (columns false label g) (text_column width label g) in (
      columns false label g ++ text_column width label g,
      refl,
      omega (arith, both, before, after, few, wide),
    )

-- colours change nothing but how the name is written
pub colours_alone : (width : ℕ) (in_pack : Bool) (g : Given) → (before : List ℕ) × (after : List ℕ)
    × (pretty_line false width in_pack g ≡ before ++ name_of (label_of in_pack g.packet) ++ after)
    × (pretty_line true width in_pack g
    ≡ before ++ (colour_of (label_of in_pack g.packet) ++ name_of (label_of in_pack g.packet) ++ codes "\u{1b}[0m") ++ after)
colours_alone width in_pack g =
    let label = label_of in_pack g.packet in (
      right 8 (decimal g.offset) ++ codes " " ++ right 5 (length_shown g.packet) ++ codes "  ",
      text_column width label g ++ codes "\n",
      simp (append_assoc),
      simp (append_assoc),
    )

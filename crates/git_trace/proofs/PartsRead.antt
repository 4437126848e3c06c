-- A line with the parts of one of a packet is read as them.
use Rattle.std.proofs.Common.{◌≡◌, ℕ, ◌+◌, ◌<◌, ◌≤◌, ◌==◌, Bool, true, false, nat_eq, zero, suc, List, [], ◌∷◌, ◌++◌, None, Some}
use Rattle.std.proofs.Common.{codes, length, take, drop, refl, sym, ap, ◌∙◌, arith, append_assoc, if◌then◌else◌, length-append}
use Rattle.std.specs.List.{list_all, prefix_len, starts_with}
use Rattle.std.specs.Cmp.Lexicographic.{pointwise}
use Rattle.std.proofs.lemmas.Bool.{and_parts}
use Rattle.std.proofs.lemmas.List.{take-append-le}
use Rattle.std.proofs.Math.Seq.{drop-append_seam, take-append_seam}
use Rattle.git_trace.specs.declared.trace_lines.Direction.{Direction}
use Rattle.git_trace.specs.declared.trace_lines.Direction.TheVariants.{Received, Sent}
use Rattle.git_trace.specs.TraceLines.{after_name, after_word, behind_word, in_parts}
use Rattle.git_trace.specs.TraceLines.{is_name_byte, is_space, content_in, traced_in, without_return, without_spaces}
use Rattle.git_trace.specs.ShownLines.{arrow, spaces}

-- whether the word begins a text is settled by eight of its characters
begins_by_front : (s t : List ℕ) → 8 ≤ length s → starts_with nat_eq (s ++ t) (codes "packet: ") ≡ starts_with nat_eq s (codes "packet: ")
begins_by_front s t long = ap (λ (l : List ℕ). pointwise nat_eq (codes "packet: ") l) (take-append-le 8 s t long)

word_found : (front rest : List ℕ) → after_word (front ++ codes "packet:") ≡ None → after_word (front ++ (codes "packet: " ++ rest)) ≡ Some rest
word_found [] rest none = refl
word_found (b ∷ front) rest none = at (starts_with nat_eq (b ∷ front ++ codes "packet:") (codes "packet: ")) refl (word_found front rest) where
  at : (begins : Bool) → starts_with nat_eq (b ∷ front ++ codes "packet:") (codes "packet: ") ≡ begins
      → (after_word (front ++ codes "packet:") ≡ None → after_word (front ++ (codes "packet: " ++ rest)) ≡ Some rest)
      → after_word (b ∷ (front ++ (codes "packet: " ++ rest))) ≡ Some rest
  at true e next = let is = rw e at none in absurd (cc)
  at false e next =
      let long : 8 ≤ length (b ∷ front ++ codes "packet:") = omega (arith, length-append front (codes "packet:")) in
      let cut : b ∷ (front ++ (codes "packet: " ++ rest)) ≡ (b ∷ front ++ codes "packet:") ++ (32 ∷ rest) =
      ap (λ (l : List ℕ). b ∷ l) (sym (append_assoc front (codes "packet:") (32 ∷ rest))) in
      let not_here : starts_with nat_eq (b ∷ (front ++ (codes "packet: " ++ rest))) (codes "packet: ") ≡ false =
      ap (λ (l : List ℕ). starts_with nat_eq l (codes "packet: ")) cut ∙ begins_by_front (b ∷ front ++ codes "packet:") (32 ∷ rest) long ∙ e in
      rw not_here (next (rw e at none))

spaces_skipped : (pad b : ℕ) (rest : List ℕ) → is_space b ≡ false → without_spaces (spaces pad ++ b ∷ rest) ≡ b ∷ rest
spaces_skipped zero b rest other = rw other refl
spaces_skipped (suc n) b rest other =
    let more : 1 + prefix_len is_space (spaces n ++ b ∷ rest) ≡ suc (prefix_len is_space (spaces n ++ b ∷ rest)) = omega arith in
    ap (λ (k : ℕ). drop k (spaces (suc n) ++ b ∷ rest)) more ∙ spaces_skipped n b rest other

name_counted : (name : List ℕ) (d : ℕ) (rest : List ℕ) → list_all is_name_byte name ≡ true → is_name_byte d ≡ false
    → prefix_len is_name_byte (name ++ d ∷ rest) ≡ length name
name_counted [] d rest all other = rw other refl
name_counted (b ∷ name) d rest all other =
    let parts = and_parts (is_name_byte b) (list_all is_name_byte name) all in
    rw parts.0 (ap (λ (k : ℕ). 1 + k) (name_counted name d rest parts.1 other) ∙ omega arith)

arrow_read : (name content : List ℕ) (direction : Direction)
    → after_name name (arrow direction ++ (codes " " ++ content)) ≡ Some (record { name = name; direction = direction; content = content_in content })
arrow_read name content Received = refl
arrow_read name content Sent = refl

no_name : (direction : Direction) (content name : List ℕ) → list_all is_name_byte name ≡ true
    → prefix_len is_name_byte (name ++ (arrow direction ++ (codes " " ++ content))) ≡ length name
no_name Received content name all = name_counted name 60 (32 ∷ content) all refl
no_name Sent content name all = name_counted name 62 (32 ∷ content) all refl

not_none : (n : ℕ) → 0 < n → (n == 0) ≡ false
not_none n less = grind (arith)

parts_read : (name content : List ℕ) (direction : Direction) → list_all is_name_byte name ≡ true → 0 < length name
    → in_parts (name ++ (arrow direction ++ (codes " " ++ content))) ≡ Some (record { name = name; direction = direction; content = content_in content })
parts_read name content direction all some =
    let rest = arrow direction ++ (codes " " ++ content) in
    let counted = no_name direction content name all in
    by_count (prefix_len is_name_byte (name ++ rest)) counted
  where
    by_count : (count : ℕ) → count ≡ length name
        → (if count == 0
        then None
        else after_name (take count (name ++ (arrow direction ++ (codes " " ++ content)))) (drop count (name ++ (arrow direction ++ (codes " " ++ content)))))
        ≡ Some (record { name = name; direction = direction; content = content_in content })
    by_count count is =
        let rest = arrow direction ++ (codes " " ++ content) in
        rw (is, not_none (length name) some, take-append_seam name rest, drop-append_seam name rest) (arrow_read name content direction)

name_is_no_space : (b : ℕ) → is_name_byte b ≡ true → is_space b ≡ false
name_is_no_space b e = grind (arith)

padded_read : (pad : ℕ) (name content : List ℕ) (direction : Direction) → list_all is_name_byte name ≡ true → 0 < length name
    → behind_word (Some (spaces pad ++ (name ++ (arrow direction ++ (codes " " ++ content)))))
    ≡ Some (record { name = name; direction = direction; content = content_in content })
padded_read pad [] content direction all some = absurd (omega (arith, some))
padded_read pad (b ∷ name) content direction all some =
    let parts = and_parts (is_name_byte b) (list_all is_name_byte name) all in
    ap in_parts (spaces_skipped pad b (name ++ (arrow direction ++ (codes " " ++ content))) (name_is_no_space b parts.0))
    ∙ parts_read (b ∷ name) content direction all some

pub line_read : (front name content line : List ℕ) (pad : ℕ) (direction : Direction)
    → line ≡ front ++ codes "packet: " ++ spaces pad ++ name ++ arrow direction ++ codes " " ++ content
    → after_word (front ++ codes "packet:") ≡ None → list_all is_name_byte name ≡ true → 0 < length name → without_return line ≡ line
    → traced_in line ≡ Some (record { name = name; direction = direction; content = content_in content })
line_read front name content line pad direction is none all some ends =
    let rest = spaces pad ++ (name ++ (arrow direction ++ (codes " " ++ content))) in
    let grouped : front ++ codes "packet: " ++ spaces pad ++ name ++ arrow direction ++ codes " " ++ content ≡ front ++ (codes "packet: " ++ rest) =
    simp append_assoc refl in
    ap (λ (l : List ℕ). behind_word (after_word l)) (ends ∙ is ∙ grouped) ∙ ap behind_word (word_found front rest none)
    ∙ padded_read pad name content direction all some

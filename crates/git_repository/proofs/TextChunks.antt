-- The lines of a text that comes in chunks.
use Rattle.std.specs.Prelude.{◌==◌}
use Rattle.std.proofs.Common.{arith, ◌≡◌, ℕ, ◌<◌, Bool, true, false, List, [], ◌∷◌, ◌++◌, refl, ap, sym, ◌∙◌, append_assoc, length, length-append, inl, inr}
use Rattle.std.specs.List.{onto_first, join_with_byte}
use Rattle.std.proofs.lemmas.List.{append-nil, same_from_push}
use Rattle.std.proofs.lemmas.List.Splits.{join_with_byte-slice_split, length-slice_split, slice_split-cons_no, slice_split-cons_yes}
use Rattle.git_pkt.specs.Packets.{text_of}
use Rattle.git_pkt.proofs.Texts.{text_loses_a_line_end, text_of-line_end}
use Rattle.git_msg.specs.Texts.{parts_of}
use Rattle.git_repository.specs.RepositoryLines.{lines_of}

-- a text has a first line
pub record First (lines : List (List ℕ)) : Type 0 where
  pub first : List ℕ
  pub others : List (List ℕ)
  pub is : lines ≡ first ∷ others

first_among : (lines : List (List ℕ)) → 0 < length lines → First lines
first_among [] h = absurd (omega (arith, h))
first_among (first ∷ others) h = record { first = first; others = others; is = refl }

pub first_part : (text : List ℕ) → First (parts_of 10 text)
first_part text =
    let long = length-slice_split (λ c. c == 10) text in
    first_among (parts_of 10 text) (omega (arith, long))

-- and a last one
pub record Last (first : List ℕ) (others : List (List ℕ)) : Type 0 where
  pub front : List (List ℕ)
  pub last : List ℕ
  pub is : first ∷ others ≡ front ++ last ∷ []

pub last_among : (first : List ℕ) (others : List (List ℕ)) → Last first others
last_among first [] = record { front = []; last = first; is = refl }
last_among first (next ∷ others) =
    let more = last_among next others in
    record { front = first ∷ more.front; last = more.last; is = ap (λ (ls : List (List ℕ)). first ∷ ls) more.is }

pub none_at_all : (x : List ℕ) (xs : List (List ℕ)) → x ∷ xs ≡ [] → ⊥
none_at_all x xs e = let long : length (x ∷ xs) ≡ length {A = List ℕ} [] = ap length e in omega (arith, long)

module _ (c : ℕ) (a b first : List ℕ) (others : List (List ℕ))
    (again : (ended : List (List ℕ)) (begun : List ℕ) → parts_of 10 a ≡ ended ++ begun ∷ [] → parts_of 10 (a ++ b) ≡ ended ++ (begun ++ first) ∷ others) where
  ended_here : (ended : List (List ℕ)) (begun : List ℕ) → [] ∷ parts_of 10 a ≡ ended ++ begun ∷ []
      → [] ∷ parts_of 10 (a ++ b) ≡ ended ++ (begun ++ first) ∷ others
  ended_here [] begun e =
      let tails : parts_of 10 a ≡ [] = cc in
      let some = first_part a in
      absurd (none_at_all some.first some.others (sym some.is ∙ tails))
  ended_here (l ∷ ls) begun e =
      let tails : parts_of 10 a ≡ ls ++ begun ∷ [] = cc in
      let heads : [] ≡ l = cc in
      let more = again ls begun tails in
      ap (λ (xs : List (List ℕ)). [] ∷ xs) more ∙ ap (λ (x : List ℕ). x ∷ (ls ++ (begun ++ first) ∷ others)) heads

  goes_on : (p : List ℕ) (ps ended : List (List ℕ)) (begun : List ℕ) → parts_of 10 a ≡ p ∷ ps → (c ∷ p) ∷ ps ≡ ended ++ begun ∷ []
      → onto_first c (parts_of 10 (a ++ b)) ≡ ended ++ (begun ++ first) ∷ others
  goes_on p ps [] begun is e =
      let tails : ps ≡ [] = cc in
      let heads : c ∷ p ≡ begun = cc in
      let more = again [] p (is ∙ ap (λ (ls : List (List ℕ)). p ∷ ls) tails) in
      ap (onto_first c) more ∙ ap (λ (x : List ℕ). (x ++ first) ∷ others) heads
  goes_on p ps (l ∷ ls) begun is e =
      let tails : ps ≡ ls ++ begun ∷ [] = cc in
      let heads : c ∷ p ≡ l = cc in
      let more = again (p ∷ ls) begun (is ∙ ap (λ (xs : List (List ℕ)). p ∷ xs) tails) in
      ap (onto_first c) more ∙ ap (λ (x : List ℕ). x ∷ (ls ++ (begun ++ first) ∷ others)) heads

  byte_joined : (ended : List (List ℕ)) (begun : List ℕ) → parts_of 10 (c ∷ a) ≡ ended ++ begun ∷ []
      → parts_of 10 ((c ∷ a) ++ b) ≡ ended ++ (begun ++ first) ∷ others
  byte_joined ended begun h = go (c == 10) refl where
    go : (t : Bool) → (c == 10) ≡ t → parts_of 10 ((c ∷ a) ++ b) ≡ ended ++ (begun ++ first) ∷ others
    go true t =
        slice_split-cons_yes (λ c. c == 10) c (a ++ b) t
        ∙ ended_here ended begun (sym (slice_split-cons_yes (λ c. c == 10) c a t) ∙ h)
    go false t =
        let some = first_part a in
        slice_split-cons_no (λ c. c == 10) c (a ++ b) t
        ∙ goes_on some.first some.others ended begun some.is
        (sym (ap (onto_first c) some.is) ∙ sym (slice_split-cons_no (λ c. c == 10) c a t) ∙ h)

-- of the first text all lines but the last are whole, and the last goes on in the second text
pub parts_joined : (a b : List ℕ) (ended : List (List ℕ)) (begun first : List ℕ) (others : List (List ℕ)) → parts_of 10 a ≡ ended ++ begun ∷ []
    → parts_of 10 b ≡ first ∷ others → parts_of 10 (a ++ b) ≡ ended ++ (begun ++ first) ∷ others
parts_joined [] b ended begun first others h k =
    let same = same_from_push [] ended [] begun h in
    k ∙ ap (λ (l : List ℕ). (l ++ first) ∷ others) same.1 ∙ ap (λ (ls : List (List ℕ)). ls ++ (begun ++ first) ∷ others) same.0
parts_joined (c ∷ a) b ended begun first others h k =
    byte_joined c a b first others (λ ends line is. parts_joined a b ends line first others is k) ended begun h

-- where the last line of the first text is empty, the second text's lines come after the others
pub parts_behind : (a b : List ℕ) (ended : List (List ℕ)) → parts_of 10 a ≡ ended ++ [] ∷ [] → parts_of 10 (a ++ b) ≡ ended ++ parts_of 10 b
parts_behind a b ended h =
    let some = first_part b in
    parts_joined a b ended [] some.first some.others h some.is ∙ ap (λ (ls : List (List ℕ)). ended ++ ls) (sym some.is)

join_end : (l : List ℕ) (ls : List (List ℕ)) → join_with_byte 10 ((l ∷ ls) ++ [] ∷ []) ≡ join_with_byte 10 (l ∷ ls) ++ 10 ∷ []
join_end l [] = refl
join_end l (m ∷ ls) =
    ap (λ (t : List ℕ). l ++ 10 ∷ t) (join_end m ls) ∙ sym (append_assoc l (10 ∷ join_with_byte 10 (m ∷ ls)) (10 ∷ []))

-- a text without a line end has no empty last line after others
no_line_end : (text : List ℕ) (ended : List (List ℕ)) → text_of text ≡ text → parts_of 10 text ≡ ended ++ [] ∷ [] → ended ≡ []
no_line_end text [] same h = refl
no_line_end text (l ∷ ls) same h =
    let is : text ≡ join_with_byte 10 (l ∷ ls) ++ 10 ∷ [] = sym (join_with_byte-slice_split 10 text) ∙ ap (join_with_byte 10) h ∙ join_end l ls in
    let cut = ap text_of is ∙ text_of-line_end (join_with_byte 10 (l ∷ ls)) in
    let short = ap length (sym same ∙ cut) in
    let long = ap length is ∙ length-append (join_with_byte 10 (l ∷ ls)) (10 ∷ []) in
    absurd (omega (arith, short, long))

-- the lines of a text: its parts, but for an empty last one after others
pub data Ends (text : List ℕ) (ended : List (List ℕ)) (begun : List ℕ) : Type 0 where
  by_line : lines_of text ≡ ended ++ begun ∷ [] → (begun ≡ [] → ended ≡ []) → Ends text ended begun
  by_line_end : lines_of text ≡ ended → begun ≡ [] → Ends text ended begun

pub text_ends : (text : List ℕ) (ended : List (List ℕ)) (begun : List ℕ) → parts_of 10 text ≡ ended ++ begun ∷ [] → Ends text ended begun
text_ends text ended begun h = elim (text_loses_a_line_end text) [
  | inl same ↦ by_line (ap (parts_of 10) same ∙ h)
      (λ none. no_line_end text ended same (h ∙ ap (λ (l : List ℕ). ended ++ l ∷ []) none))
  | inr less ↦
      let some = first_part (text_of text) in
      let last = last_among some.first some.others in
      let lines : parts_of 10 (text_of text) ≡ last.front ++ last.last ∷ [] = some.is ∙ last.is in
      let all : parts_of 10 text ≡ last.front ++ (last.last ++ []) ∷ [] ∷ [] =
      ap (parts_of 10) less ∙ parts_joined (text_of text) (10 ∷ []) last.front last.last [] ([] ∷ []) lines refl in
      let same = same_from_push ended (last.front ++ last.last ∷ []) begun []
      (sym h ∙ all ∙ ap (λ (l : List ℕ). last.front ++ l ∷ [] ∷ []) (append-nil last.last)
      ∙ sym (append_assoc last.front (last.last ∷ []) ([] ∷ []))) in
      by_line_end (lines ∙ sym same.0) same.1
]

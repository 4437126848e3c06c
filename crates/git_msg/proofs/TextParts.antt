-- The parts of a text between bytes of one value.
use Rattle.std.proofs.Common.{arith, ◌≡◌, ◌≢◌, Option, ℕ, ◌+◌, ◌-◌, ◌<◌, ◌≤◌, ◌==◌, Bool, true, false, Some, None, List, [], ◌∷◌, ◌++◌, refl, ap, sym, ◌∙◌}
use Rattle.std.proofs.Common.{length, take, drop, get_or, add-one, drop-cons, length-append, suc}
use Rattle.std.specs.Prelude.{All, position, nat_lt, if◌then◌else◌}
use Rattle.std.specs.List.{position_or_len}
use Rattle.std.proofs.lemmas.Grind.{common_steps}
use Rattle.std.proofs.lemmas.Bool.Decides.{nat_tests}
use Rattle.std.proofs.Math.Seq.{get_or-append_seam}
use Rattle.std.proofs.lemmas.List.{take-append-drop}
use Rattle.std.proofs.lemmas.List.Elements.{All-from_get_or}
use Rattle.std.proofs.lemmas.List.Sums.{fails_before_first, position_or_len_is}
use Rattle.std.proofs.lemmas.List.Quantifiers.{position-Some}
use Rattle.std.proofs.lemmas.List.Splits.{slice_split_at, slice_split_none}
use Rattle.git_pkt.proofs.Chunks.{left_of}
use Rattle.git_names.specs.RefName.{Lacks}
use Rattle.git_msg.specs.Texts.{parts_of, IsCutAt, IsPartedAt}
pub use Rattle.git_msg.specs.Texts.{bytes_left}

front_byte : (text : List ℕ) (at k : ℕ) → k < length (take at text) → get_or (take at text) k 0 ≡ get_or text k 0
front_byte text at k h = grind (arith, common_steps)

front_within : (text : List ℕ) (at k : ℕ) → k < length (take at text) → k < at
front_within text at k h = grind (arith, common_steps)

pub drop_cons : (text : List ℕ) (at : ℕ) → at < length text → drop at text ≡ get_or text at 0 ∷ drop (at + 1) text
drop_cons text at h = rw (add-one, drop-cons text at 0)

-- the parts at the first such byte
pub parts_at : (byte : ℕ) (text : List ℕ) (at : ℕ) → position (λ c. c == byte) text ≡ Some at
    → parts_of byte text ≡ take at text ∷ parts_of byte (take (length text - (at + 1)) (drop (at + 1) text))
parts_at byte text at e =
    let p = position-Some (λ c. c == byte) text at 0 e in
    let front : All (λ c. (c == byte) ≡ false) (take at text) =
    All-from_get_or (λ c. (c == byte) ≡ false) (take at text) 0 (λ k within. rw (front_byte text at k within) (p.2 k (front_within text at k within))) in
    let cut : text ≡ take at text ++ get_or text at 0 ∷ drop (at + 1) text =
    sym (take-append-drop at text) ∙ ap (λ (xs : List ℕ). take at text ++ xs) (drop_cons text at p.0) in
    ap (parts_of byte) cut
    ∙ slice_split_at (λ c. c == byte) (take at text) (get_or text at 0) (drop (at + 1) text) front p.1
    ∙ ap (λ (xs : List ℕ). take at text ∷ parts_of byte xs) (sym (left_of text (at + 1) (omega (arith, p.0))))

position_in : (p : ℕ → Bool) (xs : List ℕ) → position p xs ≡ None → (k : ℕ) → k < length xs → p (get_or xs k 0) ≡ false
position_in p xs e k within = go (nat_lt (position_or_len p xs) (length xs)) refl e where
  go : (b : Bool) → nat_lt (position_or_len p xs) (length xs) ≡ b → (if b then Some (position_or_len p xs) else None) ≡ None → p (get_or xs k 0) ≡ false
  go true h none = cc
  go false h none = let past : length xs ≤ position_or_len p xs = grind (arith, nat_tests) in fails_before_first p xs k 0 (omega (arith, past, within))

-- no such byte at all
pub one_part : (byte : ℕ) (text : List ℕ) → position (λ c. c == byte) text ≡ None → parts_of byte text ≡ text ∷ []
one_part byte text e =
    slice_split_none (λ c. c == byte) text
    (All-from_get_or (λ c. (c == byte) ≡ false) text 0 (λ k within. position_in (λ c. c == byte) text e k within))

other_byte : (c byte : ℕ) → (c == byte) ≡ false → c ≡ byte → ⊥
other_byte c byte e same = grind (arith, nat_tests)

same_byte : (c byte : ℕ) → (c == byte) ≡ true → c ≡ byte
same_byte c byte e = grind (arith, nat_tests)

-- the text cut at the first such byte
pub parted_at : (byte : ℕ) (text : List ℕ) (at : ℕ) → position (λ c. c == byte) text ≡ Some at
    → IsPartedAt byte text (take at text) (take (length text - (at + 1)) (drop (at + 1) text))
parted_at byte text at e =
    let p = position-Some (λ c. c == byte) text at 0 e in
    record {
      spelled = sym (take-append-drop at text) ∙ ap (λ (xs : List ℕ). take at text ++ xs) (drop_cons text at p.0)
          ∙ ap (λ (c : ℕ). take at text ++ c ∷ drop (at + 1) text) (same_byte (get_or text at 0) byte p.1)
          ∙ ap (λ (xs : List ℕ). take at text ++ byte ∷ xs) (sym (left_of text (at + 1) (omega (arith, p.0))));
      first = λ k within same.
          other_byte (get_or text k 0) byte (p.2 k (front_within text at k within)) (sym (front_byte text at k within) ∙ same);
    }

pub no_such_byte : (byte : ℕ) (text : List ℕ) → position (λ c. c == byte) text ≡ None → Lacks text byte
no_such_byte byte text e k within same = other_byte (get_or text k 0) byte (position_in (λ c. c == byte) text e k within) same

-- the byte that cuts a text is in it
pub parted_has_byte : (byte : ℕ) (text before after : List ℕ) → IsPartedAt byte text before after → Lacks text byte → ⊥
parted_has_byte byte text before after h lacks =
    let long = ap length h.spelled ∙ length-append before (byte ∷ after) in
    lacks (length before) (omega (arith, long)) (ap (λ (xs : List ℕ). get_or xs (length before) 0) h.spelled ∙ get_or-append_seam before byte after 0)

lacks_rest : (c byte : ℕ) (text : List ℕ) → Lacks (c ∷ text) byte → Lacks text byte
lacks_rest c byte text h k within = h (suc k) (omega arith)

-- two cuts at the first such byte are at the same place
same_parting : (byte : ℕ) (before other after rest : List ℕ) → Lacks before byte → Lacks other byte → before ++ byte ∷ after ≡ other ++ byte ∷ rest
    → (before ≡ other) × (after ≡ rest)
same_parting byte [] [] after rest h k e = (refl, cc)
same_parting byte [] (d ∷ other) after rest h k e = absurd (k 0 (omega arith) cc)
same_parting byte (c ∷ before) [] after rest h k e = absurd (h 0 (omega arith) cc)
same_parting byte (c ∷ before) (d ∷ other) after rest h k e =
    let tails : before ++ byte ∷ after ≡ other ++ byte ∷ rest = cc in
    let same = same_parting byte before other after rest (lacks_rest c byte before h) (lacks_rest d byte other k) tails in
    let heads : c ≡ d = cc in
    (ap (λ (x : ℕ). x ∷ before) heads ∙ ap (λ (xs : List ℕ). d ∷ xs) same.0, same.1)

-- a text has one first such byte
pub one_parting : (byte : ℕ) (text before other after rest : List ℕ) → IsPartedAt byte text before after → IsPartedAt byte text other rest
    → (before ≡ other) × (after ≡ rest)
one_parting byte text before other after rest h k = same_parting byte before other after rest h.first k.first (sym h.spelled ∙ k.spelled)

-- a text is cut at one place
pub one_cut : (byte : ℕ) (text before other : List ℕ) (after rest : Option (List ℕ))
    → IsCutAt byte text before after → IsCutAt byte text other rest → (before ≡ other) × (after ≡ rest)
one_cut byte text before other None None h k = (h.0 ∙ sym k.0, refl)
one_cut byte text before other None (Some rest) h k = absurd (parted_has_byte byte text other rest k h.1)
one_cut byte text before other (Some after) None h k = absurd (parted_has_byte byte text before after h k.1)
one_cut byte text before other (Some after) (Some rest) h k =
    let same = one_parting byte text before other after rest h k in
    (same.0, ap (λ (xs : List ℕ). Some xs) same.1)

pub another_byte : (c byte : ℕ) → c ≢ byte → (c == byte) ≡ false
another_byte c byte h = grind (arith, nat_tests)

-- that place is the first with the byte
pub cut_place : (byte : ℕ) (text before : List ℕ) (after : Option (List ℕ)) → IsCutAt byte text before after
    → position_or_len (λ c. c == byte) text ≡ length before
cut_place byte text before None (whole, lacks) =
    position_or_len_is (λ c. c == byte) text (length text) 0 (omega arith)
    (λ k within. another_byte (get_or text k 0) byte (lacks k within)) (λ below. absurd (omega (arith, below)))
    ∙ ap length (sym whole)
cut_place byte text before (Some after) h =
    let seam : get_or text (length before) 0 ≡ byte =
    ap (λ (xs : List ℕ). get_or xs (length before) 0) h.spelled ∙ get_or-append_seam before byte after 0 in
    position_or_len_is (λ c. c == byte) text (length before) 0 (omega (arith, ap length h.spelled, length-append before (byte ∷ after)))
    (λ k within. another_byte (get_or text k 0) byte (λ same. h.first k within (sym (front_of k within) ∙ same)))
    (λ below. rw seam (grind (arith, nat_tests))) where
      front_of : (k : ℕ) → k < length before → get_or text k 0 ≡ get_or before k 0
      front_of k within = ap (λ (xs : List ℕ). get_or xs k 0) h.spelled ∙ grind (arith, common_steps)

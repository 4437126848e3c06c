-- The table of escapes, and the escape of a block of bytes.
use Rattle.std.proofs.Common.{append_assoc, ◌≡◌, ℕ, ◌+◌, ◌<◌, ◌≤◌, Bool, true, false, IsTrue, ◌↔◌, ◌&&◌, ◌||◌, not, nat_eq, nat_le, List, [], ◌∷◌}
use Rattle.std.proofs.Common.{◌++◌, length, take, drop, slice_index, refl, sym, ◌∙◌, ap, arith, length-append}
use Rattle.std.proofs.lemmas.List.{take_more, take-append-drop, take-append-le, length-take-le, append-nil}
use Rattle.std.proofs.lemmas.Slice.{drop-append-drop}
use Rattle.std.proofs.Math.Seq.{take-append-add, take-length}
use Rattle.std.proofs.lemmas.Grind.{common_steps, flat_map-append}
use Rattle.git_pkt.specs.Escape.{escape_of, escaped_of}

-- one more byte is escaped
pub escaped_more : (block : List ℕ) (i : ℕ) → i < length block → escaped_of (take (i + 1) block) ≡ escaped_of (take i block) ++ escape_of (slice_index block i)
escaped_more block i below =
    ap escaped_of (take_more block i 0 below) ∙ flat_map-append escape_of (take i block) (slice_index block i ∷ [])
    ∙ ap (λ (l : List ℕ). escaped_of (take i block) ++ l) (append-nil (escape_of (slice_index block i)))

-- a byte that is its own escape
pub escape_of_plain : (b : ℕ) → ((nat_le 32 b && nat_le b 126) && not (nat_eq b 92)) ≡ true → escape_of b ≡ b ∷ []
unfolding escape_of
escape_of_plain b h = grind (arith, common_steps)

-- one more byte that is its own escape
pub plain_more : (block : List ℕ) (i : ℕ) (other : Bool) → i < length block → (other ≡ false → escaped_of (take i block) ≡ take i block)
    → (other || not ((nat_le 32 (slice_index block i) && nat_le (slice_index block i) 126) && not (nat_eq (slice_index block i) 92))) ≡ false
    → escaped_of (take (i + 1) block) ≡ take (i + 1) block
plain_more block i true below so_far h = absurd (cc)
plain_more block i false below so_far h =
    escaped_more block i below ∙ ap (λ (l : List ℕ). l ++ escape_of (slice_index block i)) (so_far refl)
    ∙ ap (λ (l : List ℕ). take i block ++ l) (escape_of_plain (slice_index block i) (not_false _ h)) ∙ sym (take_more block i 0 below)
  where
    not_false : (b : Bool) → not b ≡ false → b ≡ true
    not_false true h = refl
    not_false false h = absurd (cc)

-- the escape of a byte is never empty, and if it is not the byte itself, it is longer
pub escape_of_some : (b : ℕ) → 1 ≤ length (escape_of b)
unfolding escape_of
escape_of_some b = grind (arith, common_steps)

pub escape_of_other : (b : ℕ) → ((nat_le 32 b && nat_le b 126) && not (nat_eq b 92)) ≡ false → 2 ≤ length (escape_of b)
unfolding escape_of
escape_of_other b h = grind (arith, common_steps)

-- the escapes of the bytes before this one are at least as many bytes, and more if one of them is not its own escape
pub record AreLong (block : List ℕ) (i : ℕ) (other : Bool) : Type 0 where
  pub least : i ≤ length (escaped_of (take i block))
  pub more : other ≡ true → i < length (escaped_of (take i block))

-- one more byte
longer : (n after i b : ℕ) (other plain : Bool) → ((nat_le 32 b && nat_le b 126) && not (nat_eq b 92)) ≡ plain → after ≡ n + length (escape_of b)
    → i ≤ n → (other ≡ true → i < n) → (other || not plain) ≡ true → i + 1 < after
longer n after i b true plain is joined least more e = omega (arith, joined, more refl, escape_of_some b)
longer n after i b false true is joined least more e = absurd (cc)
longer n after i b false false is joined least more e = omega (arith, joined, least, escape_of_other b is)

pub long_more : (block : List ℕ) (i : ℕ) (other : Bool) → i < length block → AreLong block i other
    → AreLong block (i + 1) (other || not ((nat_le 32 (slice_index block i) && nat_le (slice_index block i) 126) && not (nat_eq (slice_index block i) 92)))
long_more block i other below h =
    let joined = ap length (escaped_more block i below) ∙ length-append (escaped_of (take i block)) (escape_of (slice_index block i)) in
    record {
      least = omega (arith, joined, h.least, escape_of_some (slice_index block i));
      more = longer (length (escaped_of (take i block))) (length (escaped_of (take (i + 1) block))) i (slice_index block i) other _ refl joined h.least h.more;
    }

-- bytes are plain exactly if their escapes are the same bytes
pub plain_exactly : (block : List ℕ) (i : ℕ) (other : Bool) → i ≡ length block → (other ≡ false → escaped_of (take i block) ≡ take i block)
    → AreLong block i other
    → IsTrue (not other) ↔ (escaped_of block ≡ block)
plain_exactly block i true at plain long =
    let all : take i block ≡ block = ap (λ (n : ℕ). take n block) at ∙ take-length block in (
      λ yes. absurd (cc),
      λ same. absurd (omega (arith, at, long.more refl, ap (λ (l : List ℕ). length (escaped_of l)) all, ap length same)),
    )
plain_exactly block i false at plain long =
    let all : take i block ≡ block = ap (λ (n : ℕ). take n block) at ∙ take-length block in (
      λ yes. ap escaped_of (sym all) ∙ plain refl ∙ all,
      λ same. refl,
    )

-- the bytes after the written ones stay
pub others_stay : (out four : List ℕ) (at from : ℕ) → at + length four ≤ from → at ≤ length out
    → drop from (take at out ++ four ++ drop (at + length four) out) ≡ drop from out
others_stay out four at from after within =
    drop-append-drop (at + length four) out (take at out ++ four) from after
    (length-append (take at out) four ∙ ap (λ (n : ℕ). n + length four) (length-take-le at out within))

-- four bytes are written after the first ones, and only some of the four count
pub overwritten : (out four escaped escape : List ℕ) (at n : ℕ)
    → at ≤ length out → n ≤ length four → take at out ≡ escaped → take n four ≡ escape
    → take (at + n) (take at out ++ four ++ drop (at + length four) out) ≡ escaped ++ escape
overwritten out four escaped escape at n within fits e f =
    let long : length (take at out) ≡ at = length-take-le at out within in
    let space : at + n ≤ length (take at out ++ four) = omega (arith, length-append (take at out) four) in
    take-append-le (at + n) (take at out ++ four) (drop (at + length four) out) space
    ∙ ap (λ (k : ℕ). take (k + n) (take at out ++ four)) (sym long) ∙ take-append-add (take at out) four n
    ∙ ap (λ (l : List ℕ). l ++ take n four) e ∙ ap (λ (l : List ℕ). escaped ++ l) f

-- the escape of one more byte is written after the others
pub escaped_on : (bytes out four front : List ℕ) (i end n : ℕ)
    → i < length bytes → end ≤ length out → n ≤ length four
    → take end out ≡ front ++ escaped_of (take i bytes) → take n four ≡ escape_of (slice_index bytes i)
    → take (end + n) (take end out ++ four ++ drop (end + length four) out) ≡ front ++ escaped_of (take (i + 1) bytes)
escaped_on bytes out four front i end n below within fits so_far one =
    overwritten out four (front ++ escaped_of (take i bytes)) (escape_of (slice_index bytes i)) end n within fits so_far one
    ∙ append_assoc front (escaped_of (take i bytes)) (escape_of (slice_index bytes i))
    ∙ ap (λ (l : List ℕ). front ++ l) (sym (escaped_more bytes i below))

-- the escapes of two parts joined
pub escaped-append : (front back : List ℕ) → escaped_of (front ++ back) ≡ escaped_of front ++ escaped_of back
escaped-append front back = flat_map-append escape_of front back

-- the escapes of a prefix and of the others
pub escaped-parts : (bytes : List ℕ) (n : ℕ) → escaped_of (take n bytes) ++ escaped_of (drop n bytes) ≡ escaped_of bytes
escaped-parts bytes n = sym (escaped-append (take n bytes) (drop n bytes)) ∙ ap escaped_of (take-append-drop n bytes)

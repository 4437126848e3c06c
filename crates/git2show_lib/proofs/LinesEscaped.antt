-- The escapes of bytes, appended a block at a time.
use Rattle.std.proofs.Common.{arith, ◌≡◌, ℕ, ◌+◌, ◌*◌, ◌≤◌, List, [], ◌++◌, length, sym, ap, ◌∙◌, append_assoc, append-nil}
use Rattle.std.proofs.lemmas.List.{length-append}
use Rattle.git_pkt.specs.Escape.{escaped_of}
use Rattle.git_pkt.proofs.Escapes.{escaped-append}

-- the escapes of all but the rest of the bytes were appended
pub record EscapedUpTo (before bytes lines rest : List ℕ) : Type 0 where
  pub done : List ℕ
  pub parts : done ++ rest ≡ bytes
  pub lines_are : lines ≡ before ++ escaped_of done

-- one block more takes no more space than was left for it
pub still_within : {left : List ℕ} (end end_after most : ℕ) (block rest : List ℕ) → left ≡ block ++ rest → end + 4 * length left ≤ most
    → end_after ≤ end + 4 * length block → end_after + 4 * length rest ≤ most
still_within end end_after most block rest cut so_far more = omega (arith, so_far, more, ap length cut ∙ length-append block rest)

pub escaped_none : (before bytes lines rest : List ℕ) → lines ≡ before → rest ≡ bytes → EscapedUpTo before bytes lines rest
escaped_none before bytes lines rest same all = record { done = []; parts = all; lines_are = same ∙ sym (append-nil before) }

module _ {before bytes lines left : List ℕ} (so_far : EscapedUpTo before bytes lines left) where
  pub escaped_more : (block rest new : List ℕ) → left ≡ block ++ rest → new ≡ lines ++ escaped_of block → EscapedUpTo before bytes new rest
  escaped_more block rest new cut is = record {
    done = so_far.done ++ block;
    parts = append_assoc so_far.done block rest ∙ ap (λ (l : List ℕ). so_far.done ++ l) (sym cut) ∙ so_far.parts;
    lines_are = is ∙ ap (λ (l : List ℕ). l ++ escaped_of block) so_far.lines_are ∙ append_assoc before (escaped_of so_far.done) (escaped_of block)
        ∙ ap (λ (l : List ℕ). before ++ l) (sym (escaped-append so_far.done block));
  }

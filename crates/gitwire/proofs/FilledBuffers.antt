-- A buffer that is filled from its front, with one text after another.
use Rattle.std.proofs.Common.{arith, ◌≡◌, ◌∙◌, ℕ, ◌+◌, List, ◌++◌, length, take, drop, refl, length-append}
use Rattle.std.proofs.Math.Seq.{take-append_seam}
use Rattle.std.proofs.lemmas.Slice.{drop-append-drop}
use Rattle.gitwire.specs.Buffers.{put_before}

placed : (base front bytes : List ℕ)
    → take (length front) (put_before front base) ++ bytes ++ drop (length front + length bytes) (put_before front base) ≡ put_before (front ++ bytes) base
placed base front bytes =
    rw (
      take-append_seam front (drop (length front) base),
      drop-append-drop (length front) base front (length front + length bytes) (omega arith) refl,
      length-append front bytes,
    )
    refl

-- bytes are put after those at the front
pub filled_more : (base front bytes buffer next : List ℕ) (at : ℕ) → at ≡ length front → buffer ≡ put_before front base
    → next ≡ take at buffer ++ bytes ++ drop (at + length bytes) buffer → next ≡ put_before (front ++ bytes) base
filled_more base front bytes buffer next at e h k = k ∙ rw (e, h) (placed base front bytes)

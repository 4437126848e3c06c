-- The escapes of a text, read one after another.
use Rattle.std.proofs.Common.{◌≡◌, ℕ, ◌+◌, ◌<◌, zero, suc, List, [], ◌∷◌, ◌++◌, length, drop, slice_index, refl, sym, ap, ◌∙◌, append_assoc}
use Rattle.std.proofs.lemmas.List.{drop_more, drop-drop}
use Rattle.git_trace.specs.Escapes.{escape_at, read_after, unescaped}

pub read_skip : (k : ℕ) (text : List ℕ) → read_after k text ≡ unescaped (drop k text)
read_skip zero [] = refl
read_skip zero (c ∷ text) = refl
read_skip (suc k) [] = refl
read_skip (suc k) (c ∷ text) = read_skip k text

-- a backslash and what follows it
pub read_escape : (s done : List ℕ) (at : ℕ) → at < length s → slice_index s at ≡ 92
    → (done ++ (escape_at (drop (at + 1) s)).byte ∷ []) ++ unescaped (drop (at + 1 + (escape_at (drop (at + 1) s)).digits) s) ≡ done ++ unescaped (drop at s)
read_escape s done at below is =
    let rest = drop (at + 1) s in
    let skipped : read_after (escape_at rest).digits rest ≡ unescaped (drop (at + 1 + (escape_at rest).digits) s) =
    read_skip (escape_at rest).digits rest ∙ ap unescaped (drop-drop _ _ s) in
    rw (drop_more s at 0 below, is, append_assoc) (ap (λ (l : List ℕ). done ++ (escape_at rest).byte ∷ l) (sym skipped))

-- The used part of a chunk, in two parts.
use Rattle.std.proofs.Common.{arith, ◌≡◌, ℕ, ◌+◌, ◌-◌, ◌≤◌, List, ◌++◌, length, take, drop, sym, ◌∙◌, ap, append_assoc}
use Rattle.std.proofs.Math.Seq.{take-add}
use Rattle.std.proofs.lemmas.Grind.{common_steps}

-- the rest of a chunk, as a slice shows it
pub left_of : (chunk : List ℕ) (done : ℕ) → done ≤ length chunk → take (length chunk - done) (drop done chunk) ≡ drop done chunk
left_of chunk done within = grind (arith, common_steps)

pub take_joined : (chunk : List ℕ) (done used : ℕ)
    → done ≤ length chunk → take done chunk ++ take used (take (length chunk - done) (drop done chunk)) ≡ take (done + used) chunk
take_joined chunk done used within =
    ap (λ (l : List ℕ). take done chunk ++ take used l) (left_of chunk done within) ∙ sym (take-add done used chunk)

-- for a caller's loop: the bytes before the chunk, those used of it, and those that a call used of the rest
pub joined : (bytes chunk : List ℕ) (done used : ℕ)
    → done ≤ length chunk → (bytes ++ take done chunk) ++ take used (take (length chunk - done) (drop done chunk)) ≡ bytes ++ take (done + used) chunk
joined bytes chunk done used within =
    append_assoc bytes _ _ ∙ ap (λ (l : List ℕ). bytes ++ l) (take_joined chunk done used within)

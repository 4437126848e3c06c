-- How a response's events raise its counts.
use Rattle.std.proofs.Common.{arith, ◌≡◌, ℕ, ◌+◌, ◌≤◌, List, [], ◌∷◌, ◌++◌, length, refl, ap, ◌∙◌, length-append}
use Rattle.git_client.specs.Events.{EventValue, pack, progress, pack_bytes, progress_bytes}
use Rattle.git_client.specs.Machine.RunSteps.{counts_with, CanCount}
use Rattle.git_client.specs.declared.receiving.Counts.{Counts}
use Rattle.git_client.proofs.Packs.{pack_bytes-append}

abbrev pub counts_of : ℕ → ℕ → Counts
counts_of p q = record { pack = p; progress = q }

pub same_counts : (p q r s : ℕ) → p ≡ r → q ≡ s → counts_of p q ≡ counts_of r s
same_counts p q r s e f = ap (λ (n : ℕ). counts_of n q) e ∙ ap (λ (n : ℕ). counts_of r n) f

-- the bytes of the pack and the progress are at most as many as the events
pub bytes_fit : (events : List EventValue) → length (pack_bytes events) + length (progress_bytes events) ≤ length events
bytes_fit [] = omega arith
bytes_fit (pack byte ∷ events) = omega (arith, bytes_fit events)
bytes_fit (progress byte ∷ events) = omega (arith, bytes_fit events)
bytes_fit (event ∷ events) = omega (arith, bytes_fit events)

pub progress_bytes-append : (events later : List EventValue) → progress_bytes (events ++ later) ≡ progress_bytes events ++ progress_bytes later
progress_bytes-append [] later = refl
progress_bytes-append (progress byte ∷ events) later = ap (λ (l : List ℕ). byte ∷ l) (progress_bytes-append events later)
progress_bytes-append (event ∷ events) later = progress_bytes-append events later

-- the pack and progress bytes of two lists of events add up
packs_together : (events later : List EventValue) → length (pack_bytes (events ++ later)) ≡ length (pack_bytes events) + length (pack_bytes later)
packs_together events later = ap length (pack_bytes-append events later) ∙ length-append (pack_bytes events) (pack_bytes later)

progress_together : (events later : List EventValue)
    → length (progress_bytes (events ++ later)) ≡ length (progress_bytes events) + length (progress_bytes later)
progress_together events later = ap length (progress_bytes-append events later) ∙ length-append (progress_bytes events) (progress_bytes later)

-- an empty list of events changes no count
pub counts_stay : (counts : Counts) → counts ≡ counts_with counts []
counts_stay counts = same_counts counts.pack counts.progress _ _ (omega arith) (omega arith)

-- counting two lists of events one after the other is counting them together
pub counts_then : (counts : Counts) (events later : List EventValue)
    → counts_with (counts_with counts events) later ≡ counts_with counts (events ++ later)
counts_then counts events later =
    same_counts _ _ _ _ (omega (arith, packs_together events later)) (omega (arith, progress_together events later))

-- if all can be counted, so can the first part, and the rest after it
pub can_count_then : (counts : Counts) (events later : List EventValue) → CanCount counts (events ++ later)
    → CanCount counts events × CanCount (counts_with counts events) later
can_count_then counts events later can = (
  record {
    pack = omega (arith, can.pack, packs_together events later);
    progress = omega (arith, can.progress, progress_together events later);
  },
  record {
    pack = omega (arith, can.pack, packs_together events later);
    progress = omega (arith, can.progress, progress_together events later);
  },
)

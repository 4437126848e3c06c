-- Lists that memory refused.
use Rattle.std.proofs.Common.{arith, ℕ, ◌≤◌}
use Rattle.std.proofs.Math.Logic.{∥∥₁_elim, ∥∥₁_prop}
use Rattle.git_msg.specs.Memory.{HasRefused}

-- a list that was to have at most so many bytes was to have at most more
pub refused_within : (refuses : ℕ → Type 0) (least most : ℕ) → least ≤ most → HasRefused refuses least → HasRefused refuses most
refused_within refuses least most fits h =
    ∥∥₁_elim h ∥∥₁_prop (λ (r : (bytes : ℕ) × refuses bytes × (bytes ≤ least)). let (bytes, is, within) = r in ∣ (bytes, is, omega (arith, within, fits)) ∣₁)

-- A list for which memory is refused while an argument is kept was to have no more bytes than the limit.
use Rattle.std.proofs.Common.{arith, ℕ, ◌+◌, ◌*◌, ◌≤◌, List, length}
use Rattle.std.proofs.Math.Nat.{mul-le-mul_right}
use Rattle.std.proofs.Math.Logic.{∥∥₁_elim, ∥∥₁_prop}
use Rattle.git_msg.specs.Arguments.{Arg, IsInRange, stored_in, written_text}
use Rattle.git_msg.specs.Kept.{IsSound, Kept}
use Rattle.git_msg.specs.Memory.{HasRefused}
use Rattle.git_msg.proofs.KeptBytes.{stored_fits}

pub refused_within : (refuses : ℕ → Type 0) (least most : ℕ) → least ≤ most → HasRefused refuses least → HasRefused refuses most
refused_within refuses least most fits h =
    ∥∥₁_elim h ∥∥₁_prop (λ (r : (bytes : ℕ) × refuses bytes × (bytes ≤ least)). let (bytes, is, within) = r in ∣ (bytes, is, omega (arith, within, fits)) ∣₁)

pub refused_more : (refuses : ℕ → Type 0) (few many each : ℕ) → few ≤ many → HasRefused refuses (few * each) → HasRefused refuses (many * each)
refused_more refuses few many each fits h = refused_within refuses (few * each) (many * each) (mul-le-mul_right each fits) h

pub refused_for : (refuses : ℕ → Type 0) (q : Kept (List Arg)) (arg : Arg) (long least : ℕ) → IsSound q
    → IsInRange q.format arg → length (written_text arg) ≤ long → q.kept + long ≤ q.limit → least ≤ q.stored + stored_in arg
    → HasRefused refuses least → HasRefused refuses q.limit
refused_for refuses q arg long least h range counted space below =
    refused_within refuses least q.limit (omega (arith, below, h.covered, counted, space, stored_fits q.format arg range))

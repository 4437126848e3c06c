-- The steps and the credit of machines that read packets.
use Rattle.std.proofs.Common.{arith, ℕ, ◌+◌, ◌*◌, ◌≤◌, List, [], ◌∷◌, length, length-append, ap}
use Rattle.std.specs.Prelude.{flat_map, sum_by}
use Rattle.std.proofs.lemmas.List.Sums.{sum_by-cons}
use Rattle.git_pkt.specs.Machine.Credit.{ArePaid, MakesAll, Pays}

-- one call after another, if the bytes of the first have paid for it
pub paid_on : (used more before middle after credit rest left : ℕ) → middle + rest ≤ before + credit + 64 * used → Pays used before middle credit rest
    → Pays more middle after rest left → Pays (used + more) before after credit left
paid_on used more before middle after credit rest left paid first second =
    record { rises = omega (arith, first.rises, second.rises); within = omega (arith, paid, second.within) }

module _ {C M : Type 0} (Makes : C → ℕ → M → ℕ → M → Type 0) (credit : M → ℕ) (used : C → List ℕ) (feeds : C → ℕ) where
  -- if each call is paid for, all together are
  pub all_paid : ((call : C) (before : ℕ) (old : M) (after : ℕ) (new : M) → Makes call before old after new
      → ArePaid (length (used call)) (feeds call) before after (credit old) (credit new))
      → (calls : List C) (before : ℕ) (old : M) (after : ℕ) (new : M) → MakesAll Makes calls before old after new
      → ArePaid (length (flat_map used calls)) (sum_by feeds calls) before after (credit old) (credit new)
  all_paid each [] before old after new (counter, same) =
      record { rises = omega (arith, counter); within = omega (arith, counter, ap credit same) }
  all_paid each (call ∷ calls) before old after new (next, between, made, more) =
      let now = each call before old next between made in
      let later = all_paid each calls next between after new more in
      let bytes = length-append (used call) (flat_map used calls) in
      record {
        rises = omega (arith, now.rises, later.rises);
        within = omega (arith, now.within, later.within, bytes, sum_by-cons feeds call calls);
      }

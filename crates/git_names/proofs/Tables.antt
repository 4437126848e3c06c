-- A test of each number below a bound, by computing.
use Rattle.std.proofs.Common.{◌≡◌, ℕ, zero, suc, ◌<◌, Bool, true, ◌&&◌, inl, inr, arith}
use Rattle.std.proofs.lemmas.Bool.{and_parts, cases_lt}

-- each number below n passes the test
abbrev pub all_pass : (ℕ → Bool) → ℕ → Bool
all_pass test zero = true
all_pass test (suc n) = test n && all_pass test n

-- a number below n
pub all_pass-at : (test : ℕ → Bool) (n k : ℕ) → all_pass test n ≡ true → k < n → test k ≡ true
all_pass-at test zero k h lt = absurd (omega arith)
all_pass-at test (suc n) k h lt =
    let parts = and_parts (test n) (all_pass test n) h in
    elim (cases_lt k n) [
      | inl below ↦ all_pass-at test n k parts.1 below
      | inr top ↦
          let e : k ≡ n = omega arith in
          rw e parts.0
    ]

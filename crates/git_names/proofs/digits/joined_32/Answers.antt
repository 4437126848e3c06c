use Rattle.std.proofs.Common.{ℕ, ◌*◌, arith}
use Rattle.git_names.proofs.Joined.{joined_at}
use Rattle.git_names.proofs.digits.joined_32.Goals as goal

pub returns-clause-value : goal.returns-clause-value
returns-clause-value c = λ k lt. joined_at (λ (j : ℕ). 2 * j) c.args.values.now k c.told-values c.requires lt (omega arith)

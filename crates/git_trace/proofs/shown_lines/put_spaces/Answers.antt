use Rattle.std.proofs.Common.{ℕ, arith}
use Rattle.std.proofs.lemmas.List.{take-replicate}
use Rattle.std.proofs.lemmas.Grind.{common_steps}
use Rattle.git_trace.proofs.shown_lines.put_spaces.Goals as goal

pub returns : goal.returns
returns c = grind (arith, common_steps, take-replicate {X = ℕ} c.args.count 14 32 c.requires)

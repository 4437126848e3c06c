use Rattle.std.proofs.Common.{ℕ, ap, take, ◌∙◌}
use Rattle.std.proofs.lemmas.List.{take_min}
use Rattle.git_host.proofs.host_answer.first_part.Goals as goal

pub returns : goal.returns
returns c = ap (λ (k : ℕ). take k c.args.bytes.now) c.min.ensures ∙ take_min 65515 c.args.bytes.now

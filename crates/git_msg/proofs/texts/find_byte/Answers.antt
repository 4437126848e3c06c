use Rattle.std.proofs.Common.{rules, ◌==◌, ℕ}
use Rattle.git_msg.proofs.Places.{first_place}
use Rattle.git_msg.proofs.texts.find_byte.Goals as goal

pub returns : goal.returns
returns c = record { value = first_place (λ (x : ℕ). x == c.args.byte) c.args.text.now c.find_byte.result (search rules) }

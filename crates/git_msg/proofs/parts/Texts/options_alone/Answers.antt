use Rattle.std.proofs.Common.{rules}
use Rattle.git_msg.proofs.PooledTexts.{ends_alone}
use Rattle.git_msg.proofs.parts.Texts.options_alone.Goals as goal

pub invariant_of-result : goal.invariant_of-result
invariant_of-result g c = search (rules, ends_alone)

use Rattle.std.proofs.Common.{rules}
use Rattle.std.proofs.lemmas.Bool.Decides.{Decides-eqb}
use Rattle.std.proofs.lemmas.Slice.Eq.{strip_prefix_is}
use Rattle.git_msg.proofs.texts.after.Goals as goal

pub returns : goal.returns
returns c = record { rest = strip_prefix_is Decides-eqb c.args.text.now c.args.word.now c.strip_prefix.result (search rules) }

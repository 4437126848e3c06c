use Rattle.std.proofs.Common.{◌++◌, ap, length}
use Rattle.std.proofs.lemmas.List.{drop-replicate}
use Rattle.git_msg.proofs.agent.padded.Goals as goal

pub returns : goal.returns
returns c = rw c.copy_from_slice.ensures.after (ap (λ rest. c.args.text.now ++ rest) (drop-replicate (length c.args.text.now) 63 0))

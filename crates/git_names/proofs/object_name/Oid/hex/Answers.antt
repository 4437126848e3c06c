use Rattle.git_names.proofs.ObjectNames.{hex_of-front}
use Rattle.git_names.proofs.object_name.Oid.hex.Goals as goal

pub returns : goal.returns
returns c = record { text = rw (← c.self.view_is) (rw c.pairs_of.ensures (hex_of-front _)) }

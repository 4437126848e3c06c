use Rattle.git_pkt.proofs.Written.{spells_written}
use Rattle.git_pkt.proofs.laws.written_form_is_a_spelling.Goals as goal

pub returns : goal.returns
returns c = spells_written

use Rattle.git_client.proofs.Determined.{one_note}
use Rattle.git_client.proofs.laws.one_note.Goals as goal

pub returns : goal.returns
returns c = one_note

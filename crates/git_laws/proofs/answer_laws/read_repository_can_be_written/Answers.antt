use Rattle.git_laws.proofs.ReceivingSessions.{can_be_written}
use Rattle.git_laws.proofs.answer_laws.read_repository_can_be_written.Goals as goal

pub returns : goal.returns
returns c = can_be_written

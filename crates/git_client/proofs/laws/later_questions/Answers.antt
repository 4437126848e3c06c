use Rattle.git_client.proofs.EventsReceived.{later_questions}
use Rattle.git_client.proofs.laws.later_questions.Goals as goal

pub returns : goal.returns
returns c = later_questions

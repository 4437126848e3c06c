use Rattle.git_laws.proofs.PlaysAnnounced.{asks_in}
use Rattle.git_laws.proofs.answer_laws.values_are_asked_in_their_format.Goals as goal

pub returns : goal.returns
returns c = asks_in

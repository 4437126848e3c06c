use Rattle.git_store.proofs.HostedAnswers.{all_answers}
use Rattle.git_store.proofs.laws.session_answers_are_a_repositorys.Goals as goal

pub returns : goal.returns
returns c format repo asked reported packets of h = all_answers format repo asked reported packets of h

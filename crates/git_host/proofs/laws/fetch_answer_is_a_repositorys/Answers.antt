use Rattle.git_host.proofs.RepositoryFacts.{reported_answers}
use Rattle.git_host.proofs.laws.fetch_answer_is_a_repositorys.Goals as goal

pub returns : goal.returns
returns c manner repo q t packets reports h = reported_answers manner repo q t reports packets h

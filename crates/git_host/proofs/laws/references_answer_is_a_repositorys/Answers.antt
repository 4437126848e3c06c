use Rattle.git_host.proofs.SizesMoves.{references_answer}
use Rattle.git_host.proofs.laws.references_answer_is_a_repositorys.Goals as goal

pub returns : goal.returns
returns c repo format q t packets refs unborn h = references_answer repo format q t packets refs unborn h

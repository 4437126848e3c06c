use Rattle.git_host.proofs.SizesMoves.{sizes_answer}
use Rattle.git_host.proofs.laws.sizes_answer_is_a_repositorys.Goals as goal

pub returns : goal.returns
returns c repo q sizes packets are h = sizes_answer repo q sizes packets are h

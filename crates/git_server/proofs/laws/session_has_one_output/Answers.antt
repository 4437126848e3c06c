use Rattle.git_server.proofs.OneOutput.{one_output, one_output_so_far}
use Rattle.git_server.proofs.laws.session_has_one_output.Goals as goal

pub returns : goal.returns
returns c = record { ended = one_output; answered = one_output_so_far }

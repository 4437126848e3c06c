use Rattle.git_client.proofs.Chosen.{format_is_spoken}
use Rattle.git_client.proofs.laws.chosen_format_is_advertised.Goals as goal

pub returns : goal.returns
returns c = format_is_spoken

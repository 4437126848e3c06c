use Rattle.git_client.proofs.ResponseRules.{response_is}
use Rattle.git_client.proofs.laws.response_goes_by_its_sections.Goals as goal

pub returns : goal.returns
returns c = response_is

use Rattle.git_repository.proofs.TextLaws.{one_repository}
use Rattle.git_repository.proofs.repository_text_laws.one_repository.Goals as goal

pub returns : goal.returns
returns c = one_repository

use Rattle.git_repository.proofs.TextLaws.{repository_or_bad}
use Rattle.git_repository.proofs.repository_text_laws.repository_or_bad.Goals as goal

pub returns : goal.returns
returns c = repository_or_bad

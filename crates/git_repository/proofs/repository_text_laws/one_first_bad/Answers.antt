use Rattle.git_repository.proofs.TextLaws.{one_first_bad}
use Rattle.git_repository.proofs.repository_text_laws.one_first_bad.Goals as goal

pub returns : goal.returns
returns c = one_first_bad

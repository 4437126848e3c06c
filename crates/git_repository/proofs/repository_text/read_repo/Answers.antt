use Rattle.std.proofs.Common.{refl, []}
use Rattle.git_repository.proofs.repository_text.read_repo.Goals as goal

pub returns : goal.returns
returns g c = c.finish.ensures c.args.text.now (c.with_text-progress.ensures.reads [] refl)

use Rattle.std.proofs.Common.{◌∷◌, [], subst}
use Rattle.git_repository.specs.Machine.RepositoryProgress.{HasRead}
use Rattle.git_repository.specs.declared.repository_progress.Progress.{Progress}
use Rattle.git_repository.proofs.Reading.{fault_stays}
use Rattle.git_repository.proofs.repository_progress.Progress.with_line.Goals as goal

pub returns-in-Failed : goal.returns-in-Failed
returns-in-Failed g c lines h =
    fault_stays g.M.RepoMemory.refuses lines (c.args.line.now ∷ []) c.in-Failed.fault
    (subst (λ (p : Progress). HasRead g.M.RepoMemory.refuses p lines) c.in-Failed.is h)

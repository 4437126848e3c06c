use Rattle.std.proofs.Common.{inl, inr, subst}
use Rattle.git_repository.specs.Machine.DraftLists.{drafted}
use Rattle.git_repository.specs.Machine.RepositoryProgress.{HasRead}
use Rattle.git_repository.specs.declared.repository_progress.Progress.{Progress}
use Rattle.git_repository.proofs.Reading.{too_long_at_first, too_long_behind}
use Rattle.git_repository.proofs.repository_progress.Progress.with_long_line.Goals as goal

pub returns-in-Start-clause-reads : goal.returns-in-Start-clause-reads
returns-in-Start-clause-reads g c lines begun long h =
    inr (too_long_at_first lines begun long (subst (λ (p : Progress). HasRead g.M.RepoMemory.refuses p lines) c.in-Start.is h))

pub returns-in-Lines-clause-reads : goal.returns-in-Lines-clause-reads
returns-in-Lines-clause-reads g c lines begun long h =
    inr (too_long_behind lines (drafted c.in-Lines.draft) begun c.next_line.result c.next_line.ensures long
    (subst (λ (p : Progress). HasRead g.M.RepoMemory.refuses p lines) c.in-Lines.is h))

pub returns-in-Failed-clause-reads : goal.returns-in-Failed-clause-reads
returns-in-Failed-clause-reads g c lines begun long h = inl (subst (λ (p : Progress). HasRead g.M.RepoMemory.refuses p lines) c.in-Failed.is h)

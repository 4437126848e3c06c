use Rattle.std.proofs.Common.{List, ℕ, subst}
use Rattle.git_repository.specs.Machine.RepositoryProgress.{HasRead, Stands}
use Rattle.git_repository.specs.declared.repository_progress.Progress.{Progress}
use Rattle.git_msg.specs.Texts.{parts_of}
use Rattle.git_repository.proofs.Progressing.{empty_of, some_of, end_at_start, end_behind, end_failed, end_within}
use Rattle.git_repository.proofs.repository_progress.Progress.with_end.Goals as goal

pub returns-then-is_empty : goal.returns-then-is_empty
returns-then-is_empty g c text h =
    end_behind g.M.RepoMemory.refuses c.in-Lines.draft text c.args.begun.now (empty_of c.args.begun.now c.if-is_empty.ensures)
    (subst (λ (p : Progress). Stands g.M.RepoMemory.refuses p c.args.begun.now (parts_of 10 text)) c.in-Lines.is h)

pub returns-in-Start : goal.returns-in-Start
returns-in-Start g c text h =
    subst (λ (ls : List (List ℕ)). HasRead g.M.RepoMemory.refuses c.begin.result ls)
    (end_at_start g.M.RepoMemory.refuses text c.args.begun.now
    (subst (λ (p : Progress). Stands g.M.RepoMemory.refuses p c.args.begun.now (parts_of 10 text)) c.in-Start.is h)) c.begin.ensures

pub returns-else-is_empty : goal.returns-else-is_empty
returns-else-is_empty g c text h =
    let there = subst (λ (p : Progress). Stands g.M.RepoMemory.refuses p c.args.begun.now (parts_of 10 text)) c.in-Lines.is h in
    subst (λ (ls : List (List ℕ)). HasRead g.M.RepoMemory.refuses c.with_line.result ls)
    (end_within g.M.RepoMemory.refuses c.in-Lines.draft text c.args.begun.now (some_of c.args.begun.now c.if-is_empty.ensures) there)
    (c.with_line.ensures there.ended there.read)

pub returns-in-Failed : goal.returns-in-Failed
returns-in-Failed g c text h =
    end_failed g.M.RepoMemory.refuses c.in-Failed.fault text c.args.begun.now
    (subst (λ (p : Progress). Stands g.M.RepoMemory.refuses p c.args.begun.now (parts_of 10 text)) c.in-Failed.is h)

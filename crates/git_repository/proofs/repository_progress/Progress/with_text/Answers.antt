use Rattle.std.proofs.Common.{◌∷◌, ◌++◌, []}
use Rattle.git_repository.proofs.Progressing.{failed_text, stand_behind}
use Rattle.git_repository.specs.declared.repository_progress.Progress.TheVariants.{Failed}
use Rattle.git_repository.proofs.repository_progress.Progress.with_text.Goals as goal

pub returns-in-Failed-clause-reads : goal.returns-in-Failed-clause-reads
returns-in-Failed-clause-reads g c lines h =
    let line = c.split_at_first.result.0.now in
    let left = c.in-Some.left.now in
    let parts = rw c.in-Some.is at c.split_at_first.ensures.parts in
    stand_behind g.M.RepoMemory.refuses (Failed c.in-Failed.fault) _ lines line c.args.text.now left parts
    (failed_text g.M.RepoMemory.refuses c.in-Failed.fault _ (lines ++ line ∷ []) left (c.in-Failed.ensures lines h))

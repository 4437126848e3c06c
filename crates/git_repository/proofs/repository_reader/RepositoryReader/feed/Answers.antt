use Rattle.git_repository.proofs.Progressing.{failed_stays}
use Rattle.git_repository.proofs.repository_reader.RepositoryReader.feed.Goals as goal

pub returns-then-has_failed-clause-fed : goal.returns-then-has_failed-clause-fed
returns-then-has_failed-clause-fed g c text h =
    failed_stays g.M.RepoMemory.refuses c.args.self.now.progress c.args.self.now.begun.items text c.args.chunk.now
    (c.has_failed.ensures.0 c.if-has_failed.true) h

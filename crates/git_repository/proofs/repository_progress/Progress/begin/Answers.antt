use Rattle.git_repository.specs.Machine.DraftLists.{drafted}
use Rattle.git_repository.proofs.Reading.{started}
use Rattle.git_repository.proofs.repository_progress.Progress.begin.Goals as goal

pub returns-in-Some : goal.returns-in-Some
returns-in-Some g c = started c.in-Some.format c.args.line.now (drafted c.new.result) c.in-Some.ensures c.new.ensures

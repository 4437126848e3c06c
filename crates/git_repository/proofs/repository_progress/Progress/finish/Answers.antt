use Rattle.git_server.specs.Machine.ListRepo.{lists_of}
use Rattle.git_repository.specs.Machine.DraftLists.{drafted}
use Rattle.git_repository.specs.Packs.{packs_of}
use Rattle.git_repository.proofs.Progressing.{some_lines}
use Rattle.git_repository.proofs.Reading.{text_fault, whole_text}
use Rattle.git_repository.proofs.repository_progress.Progress.finish.Goals as goal

pub returns-in-Lines : goal.returns-in-Lines
returns-in-Lines g c text h =
    whole_text text (packs_of c.args.packs) (drafted c.in-Lines.draft) (lists_of c.finish.result) (c.in-Lines.ensures text h) c.finish.ensures

pub returns-in-Failed : goal.returns-in-Failed
returns-in-Failed g c text h = text_fault g.M.RepoMemory.refuses text c.in-Failed.fault (c.in-Failed.ensures text h)

pub returns-in-Start : goal.returns-in-Start
returns-in-Start g c text h = absurd (some_lines text (c.in-Start.ensures text h))

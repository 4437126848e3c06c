-- The values of a `SharedRepo` that contracts refer to.
use Rattle.git_server.specs.declared.list_repo.ListRepo.{ListRepo}
use Rattle.git_server.specs.declared.shared_repo.SharedRepo.{SharedRepo}
use Rattle.git_server.specs.Machine.ListRepo.{state_of}
use Rattle.git_server.specs.Repository.{RepoState}

-- the repository that is shared
abbrev pub shared_by : SharedRepo → ListRepo
shared_by shared = shared.repo.value

-- its answers: those of the shared repository
abbrev pub shared_state : SharedRepo → RepoState
shared_state shared = state_of (shared_by shared)

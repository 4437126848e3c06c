use Rattle.git_store.proofs.RepositorySessions.{repository_reports, repository_session, rises_as_well}
use Rattle.git_store.proofs.laws.store_session_is_a_repositorys.Goals as goal

pub returns-clause-reported : goal.returns-clause-reported
returns-clause-reported g c s repo moves outcome first store last left ran =
    let rising = rises_as_well g.R.Repo.state repo store (g.met.R.Repo.sound store.repo) ran.answers in
    repository_reports g.R.Repo.state s repo rising moves outcome first store last left ran

pub returns-clause-session : goal.returns-clause-session
returns-clause-session g c s repo failures moves outcome first store last left ran =
    let rising = rises_as_well g.R.Repo.state repo store (g.met.R.Repo.sound store.repo) ran.answers in
    repository_session g.R.Repo.state s repo rising moves outcome first store last left ran failures

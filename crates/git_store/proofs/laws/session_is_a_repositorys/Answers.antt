use Rattle.git_store.proofs.HostedAnswers.{hosted_session}
use Rattle.git_store.proofs.laws.session_is_a_repositorys.Goals as goal

pub returns : goal.returns
returns c s repo failures used over reported given outcome of well h = hosted_session s repo failures used over reported given of outcome well h

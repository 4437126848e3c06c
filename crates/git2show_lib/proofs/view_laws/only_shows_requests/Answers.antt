use Rattle.git2show_lib.proofs.OnlyRequests.{finds_stray, shows_requests}
use Rattle.git2show_lib.proofs.view_laws.only_shows_requests.Goals as goal

pub returns-clause-shown : goal.returns-clause-shown
returns-clause-shown c = shows_requests

pub returns-clause-stray : goal.returns-clause-stray
returns-clause-stray c = finds_stray

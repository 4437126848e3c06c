use Rattle.git2show_lib.proofs.OnlyRequests.{with_requests}
use Rattle.git2show_lib.proofs.showing.show_view.Goals as goal

pub returns-clause-requests : goal.returns-clause-requests
returns-clause-requests g c = λ between outside. with_requests between outside c.show_by.ensures.shown

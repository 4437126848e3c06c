use Rattle.git2show_lib.proofs.CheckerCalls.{closed_requests, closed_responses, opened_where_needed}
use Rattle.git2show_lib.proofs.check_laws.checkers_need.Goals as goal

pub returns-clause-requests : goal.returns-clause-requests
returns-clause-requests g c = closed_requests

pub returns-clause-responses : goal.returns-clause-responses
returns-clause-responses g c = closed_responses

pub returns-clause-opened : goal.returns-clause-opened
returns-clause-opened g c = opened_where_needed

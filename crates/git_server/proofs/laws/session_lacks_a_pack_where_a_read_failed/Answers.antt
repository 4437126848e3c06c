use Rattle.git_server.proofs.Outcomes.{lost_where_failed}
use Rattle.git_server.proofs.laws.session_lacks_a_pack_where_a_read_failed.Goals as goal

pub returns : goal.returns
returns g c = λ s used over given r. (r.failures.risen, λ rises. lost_where_failed _ _ _ r.failures rises)

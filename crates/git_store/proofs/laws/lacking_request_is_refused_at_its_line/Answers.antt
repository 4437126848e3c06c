use Rattle.git_store.proofs.HostedWants.{at_its_line}
use Rattle.git_store.proofs.laws.lacking_request_is_refused_at_its_line.Goals as goal

pub returns : goal.returns
returns c s repo failures used reported given fault of h = at_its_line s repo failures used reported given fault of h.1

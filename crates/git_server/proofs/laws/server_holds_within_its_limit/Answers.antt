use Rattle.std.proofs.Common.{arith}
use Rattle.git_server.proofs.laws.server_holds_within_its_limit.Goals as goal

pub returns : goal.returns
returns g c = λ s used over given r. omega (arith, r.fits, r.within, r.covered, c.args.server.now.requests.bounded.covered)

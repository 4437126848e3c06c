use Rattle.std.proofs.Common.{arith}
use Rattle.git_client.proofs.Calls.{kept_within, stored_within}
use Rattle.git_client.proofs.laws.client_holds_within_its_limit.Goals as goal

pub returns : goal.returns
returns g c =
    λ t h client converses.
    omega (arith, converses.reads.fits, stored_within client.request client.covered, kept_within client.request client.within)

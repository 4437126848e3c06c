use Rattle.std.proofs.Common.{refl}
use Rattle.git_server.specs.Machine.LateRepo.{late_state}
use Rattle.git_server.proofs.LatePacks.{settled_runs}
use Rattle.git_server.proofs.server.Server+LateRepo+P+A.read_packs.Goals as goal

pub returns-clause-runs : goal.returns-clause-runs
returns-clause-runs g c = settled_runs late_state c.args.self.now _ refl refl refl refl c.read_packs.ensures.settles

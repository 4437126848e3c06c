use Rattle.std.proofs.Common.{refl}
use Rattle.git_server.specs.Machine.Moved.{waits_open}
use Rattle.git_server.proofs.OneRequestTaken.{takes_closed}
use Rattle.git_server.proofs.one_request.OneRequestMachine.close.Goals as goal

pub returns-clause-reaches : goal.returns-clause-reaches
returns-clause-reaches g c =
    (takes_closed g.R.Repo.state _ _ c.args.from c.requires.0 c.close.ensures.closes c.close.ensures.unread, refl)

pub returns-clause-done : goal.returns-clause-done
returns-clause-done g c = λ k done. absurd (waits_open c.args.self.now.server.now c.requires.1 done)

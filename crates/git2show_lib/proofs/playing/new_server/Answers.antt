use Rattle.git_msg.specs.declared.limits.TheConstants.Limits.{DEFAULT_ARGS}
use Rattle.git2show_lib.proofs.PlayOpening.{begins, goes_on}
use Rattle.git2show_lib.proofs.playing.new_server.Goals as goal

pub returns-clause-begins : goal.returns-clause-begins
returns-clause-begins g c =
    begins g.R.Repo.state _ (g.R.Repo.state c.args.repo) DEFAULT_ARGS c.args.advertise _ _ c.everything-offer.ensures c.format.ensures c.new.ensures.running

pub returns-clause-goes_on : goal.returns-clause-goes_on
returns-clause-goes_on g c =
    goes_on g.R.Repo.state _ (g.R.Repo.state c.args.repo) DEFAULT_ARGS c.args.advertise _ _ c.everything-offer.ensures c.format.ensures c.new.ensures.running

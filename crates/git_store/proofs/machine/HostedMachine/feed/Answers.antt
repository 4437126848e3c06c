use Rattle.git_store.proofs.StoreRunLemmas.{by_bytes}
use Rattle.git_store.proofs.machine.HostedMachine.feed.Goals as goal

pub returns-clause-reaches : goal.returns-clause-reaches
returns-clause-reaches g c =
    by_bytes g.S.Store.begins g.S.Store.replies c.args.self.now c.take.new.self c.args.from _ c.requires.0 c.take.ensures.reaches

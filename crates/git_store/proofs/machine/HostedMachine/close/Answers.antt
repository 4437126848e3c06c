use Rattle.git_store.proofs.StoreRunLemmas.{by_close}
use Rattle.git_store.proofs.machine.HostedMachine.close.Goals as goal

pub returns-clause-reaches : goal.returns-clause-reaches
returns-clause-reaches g c =
    by_close g.S.Store.begins g.S.Store.replies c.args.self.now c.end.new.self c.args.from c.requires.0 c.end.ensures.closes c.end.ensures.store

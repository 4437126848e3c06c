use Rattle.git_store.proofs.StoreWaits.{closed_session, closes_now, over_now}
use Rattle.git_store.proofs.hosted.Hosted.end.Goals as goal

pub invariant_of-self : goal.invariant_of-self
invariant_of-self g c =
    let old = c.args.self.now in
    record {
      session =
          closed_session old.server c.close.new.self old.session
          (closes_now old.server c.close.new.self old.session c.close.result c.close.ensures.closes c.requires);
    }

pub returns-clause-closes : goal.returns-clause-closes
returns-clause-closes g c =
    let old = c.args.self.now in closes_now old.server c.close.new.self old.session c.close.result c.close.ensures.closes c.requires

pub returns-clause-over : goal.returns-clause-over
returns-clause-over g c =
    let old = c.args.self.now in
    over_now old.server c.close.new.self old.session
    (closes_now old.server c.close.new.self old.session c.close.result c.close.ensures.closes c.requires)

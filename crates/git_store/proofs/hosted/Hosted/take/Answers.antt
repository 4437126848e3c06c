use Rattle.git_store.proofs.StoreReaches.{fed_so}
use Rattle.git_store.proofs.StoreWaits.{keeps_session, uses_some}
use Rattle.git_store.proofs.hosted.Hosted.take.Goals as goal

pub invariant_of-self : goal.invariant_of-self
invariant_of-self g c =
    let old = c.args.self.now in
    record {
      session =
          keeps_session old.server c.feed.new.self old.session
          (fed_so g.S.Store.begins g.S.Store.replies old.server old.store c.feed.new.self _ c.feed.ensures.feeds);
    }

pub returns-clause-some : goal.returns-clause-some
returns-clause-some g c =
    let old = c.args.self.now in
    uses_some old.server c.feed.new.self old.session c.args.chunk.now c.feed.result c.feed.ensures.moves c.requires

pub returns-clause-reaches : goal.returns-clause-reaches
returns-clause-reaches g c =
    let old = c.args.self.now in
    fed_so g.S.Store.begins g.S.Store.replies old.server old.store c.feed.new.self _ c.feed.ensures.feeds

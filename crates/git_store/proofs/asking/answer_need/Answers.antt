use Rattle.git_store.proofs.StoreReaches.{err_so, failed_need, ok_so, settled_need}
use Rattle.git_store.proofs.asking.answer_need.Goals as goal

pub returns-in-Ok : goal.returns-in-Ok
returns-in-Ok g c =
    settled_need g.S.Store.replies c.args.need c.args.server.now c.args.store.now c.settle.new.server c.ask.new.store c.ask.new.server c.in-Ok.reported
    c.settle.result
    (ok_so g.S.Store.replies c.args.need c.args.server.now c.args.store.now c.ask.new.server c.ask.new.store c.ask.result c.in-Ok.reported c.in-Ok.is
    c.ask.ensures) c.settle.ensures

pub returns-in-Err : goal.returns-in-Err
returns-in-Err g c =
    failed_need g.S.Store.replies c.args.need c.args.server.now c.args.store.now c.fail.new.server c.ask.new.store c.ask.new.server c.fail.result
    (err_so g.S.Store.replies c.args.need c.args.server.now c.args.store.now c.ask.new.server c.ask.new.store c.ask.result _ c.in-Err.is c.ask.ensures)
    c.fail.ensures

use Rattle.git_store.proofs.StoreRunLemmas.{by_quiet, gives_first}
use Rattle.git_store.proofs.machine.HostedMachine.next.Goals as goal

pub returns-in-Packet-clause-part : goal.returns-in-Packet-clause-part
returns-in-Packet-clause-part g c = λ to is.
    gives_first g.S.Store.begins g.S.Store.replies c.args.self.now c.go_on.new.self to (cc) (c.go_on.ensures.packet c.in-Packet.is)

pub returns-in-NeedInput-clause-needs_input : goal.returns-in-NeedInput-clause-needs_input
returns-in-NeedInput-clause-needs_input g c = λ from is.
    let (reads, reaches) = c.go_on.ensures.needs_input c.in-NeedInput.is in
    (((cc), reads), by_quiet g.S.Store.begins g.S.Store.replies c.args.self.now c.go_on.new.self reaches)

pub returns-in-Finished-clause-finished : goal.returns-in-Finished-clause-finished
returns-in-Finished-clause-finished g c = λ is.
    let (finished, reaches) = c.go_on.ensures.finished c.in-Finished.is in
    (finished, by_quiet g.S.Store.begins g.S.Store.replies c.args.self.now c.go_on.new.self reaches)

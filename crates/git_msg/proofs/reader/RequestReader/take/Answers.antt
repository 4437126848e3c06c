use Rattle.git_msg.proofs.TakenPackets.{no_fault, takes_err, takes_more, takes_no_more, takes_stop, takes_whole}
use Rattle.git_msg.proofs.reader.RequestReader.take.Goals as goal

pub returns-in-Failed-clause-brings : goal.returns-in-Failed-clause-brings
returns-in-Failed-clause-brings g c = takes_no_more _ c.args.self.now _ c.in-Failed.fault c.in-Failed.is

pub returns-in-Ok-More-clause-brings : goal.returns-in-Ok-More-clause-brings
returns-in-Ok-More-clause-brings g c =
    takes_more _ c.args.self.now c.step.new.self _ (no_fault _ c.in_default.not-Failed) (rw c.in-Ok-More.field-0-is at c.in-Ok-More.ensures.goes_on)

pub returns-in-Ok-Whole-clause-brings : goal.returns-in-Ok-Whole-clause-brings
returns-in-Ok-Whole-clause-brings g c =
    rw c.restart.ensures.given
    (takes_whole _ c.args.self.now c.step.new.self _ c.restart.new.self (no_fault _ c.in_default.not-Failed)
    (rw c.in-Ok-Whole.field-0-is at c.in-Ok-Whole.ensures.goes_on) c.restart.ensures.fresh c.restart.ensures.part c.restart.ensures.offer
    c.restart.ensures.next)

pub returns-in-Ok-Whole-clause-covered : goal.returns-in-Ok-Whole-clause-covered
returns-in-Ok-Whole-clause-covered g c = rw c.restart.ensures.given c.step.new.self.bounded.covered

pub returns-in-Ok-Stop-clause-brings : goal.returns-in-Ok-Stop-clause-brings
returns-in-Ok-Stop-clause-brings g c =
    takes_stop _ c.args.self.now c.step.new.self _ (no_fault _ c.in_default.not-Failed) (rw c.in-Ok-Stop.field-0-is at c.in-Ok-Stop.ensures.goes_on)

pub returns-in-Err-clause-brings : goal.returns-in-Err-clause-brings
returns-in-Err-clause-brings g c =
    takes_err _ c.args.self.now c.step.new.self _ c.in-Err.kind _ (no_fault _ c.in_default.not-Failed) c.in-Err.ensures.goes_on

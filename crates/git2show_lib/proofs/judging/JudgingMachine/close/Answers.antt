use Rattle.std.proofs.Common.{refl}
use Rattle.git2show_lib.specs.Machine.Checker.{needed_of}
use Rattle.git2show_lib.proofs.JudgingCalls.{closed_done, needs_so, reaches_closed, stays_done_so}
use Rattle.git2show_lib.proofs.judging.JudgingMachine.close.Goals as goal

pub returns-clause-reaches : goal.returns-clause-reaches
returns-clause-reaches g c =
    let needs = needs_so c.requires.stream (needed_of c.args.self.now.checker) c.requires.is c.stream_of.ensures c.requires.needs in
    reaches_closed c.args.self.now _ c.requires.all_given refl c.requires.stream c.requires.is c.stream_of.ensures (c.close.ensures.carries needs)
    c.close.ensures.stays_opened

pub returns-clause-ended : goal.returns-clause-ended
returns-clause-ended g c =
    let needs = needs_so c.requires.stream (needed_of c.args.self.now.checker) c.requires.is c.stream_of.ensures c.requires.needs in
    closed_done c.close.new.self c.stream_of.ensures (c.close.ensures.done needs)

pub returns-clause-done : goal.returns-clause-done
returns-clause-done g c = stays_done_so c.args.self.now.checker c.close.new.self c.close.ensures.stays_done

use Rattle.git2show_lib.proofs.Printing.{gives_part, over_in, stays}
use Rattle.git2show_lib.proofs.shower.ShowerMachine.next.Goals as goal

pub returns-then-lend-clause-part : goal.returns-then-lend-clause-part
returns-then-lend-clause-part g c = λ to is.
    gives_part g.V.Renderer.view c.args.self.now to _ (cc) c.lend.ensures.taken (c.lend.ensures.lent c.if-lend.true)

pub returns-in-Gathering-clause-needs_input : goal.returns-in-Gathering-clause-needs_input
returns-in-Gathering-clause-needs_input g c = λ from is. (
  (
    cc,
    record {
      gathering = c.in-Gathering.is;
      all_given = c.lend.ensures.taken;
      sound = record { sound = c.requires.sound; gathers = c.requires.gathers };
    },
  ),
  stays g.V.Renderer.view c.args.self.now _ (c.lend.ensures.none c.if-lend.false).1,
)

pub returns-in-Stopped-clause-finished : goal.returns-in-Stopped-clause-finished
returns-in-Stopped-clause-finished g c = λ is. (
  (over_in c.in-Stopped.is, c.lend.ensures.taken),
  stays g.V.Renderer.view c.args.self.now _ (c.lend.ensures.none c.if-lend.false).1,
)

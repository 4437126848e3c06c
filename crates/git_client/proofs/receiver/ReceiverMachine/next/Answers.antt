use Rattle.std.proofs.Common.{subst, sym, ap, ◌∙◌, arith, Bool, List, ℕ}
use Rattle.git_client.specs.Machine.ReceiverStates.{PassesIn}
use Rattle.git_client.specs.declared.receiver.Passing.{Passing}
use Rattle.git_client.proofs.ReceiverCalls.{gives_lines, gives_pack, gives_progress, stays}
use Rattle.git_client.proofs.receiver.ReceiverMachine.next.Goals as goal

pub returns-then-lend-clause-part : goal.returns-then-lend-clause-part
returns-then-lend-clause-part g c = λ to is.
    let lent = c.lend.ensures.lent c.if-lend.true in gives_lines c.args.self.now to _ _ c.args.fed.now (cc) lent.0 lent.1

pub returns-then-wants_input-clause-needs_input : goal.returns-then-wants_input-clause-needs_input
returns-then-wants_input-clause-needs_input g c = λ from is.
    let none = c.lend.ensures.none c.if-lend.false in (
      (
        cc,
        record {
          expected = sym c.wants_input.ensures.value ∙ c.if-wants_input.true;
          given = record { lines = none.1; unlent = none.0; passed = c.in-Nothing.is };
        },
      ),
      stays c.args.self.now _ _ c.lend.ensures.taken none.2,
    )

pub returns-else-wants_input-clause-finished : goal.returns-else-wants_input-clause-finished
returns-else-wants_input-clause-finished g c = λ is.
    let none = c.lend.ensures.none c.if-lend.false in (
      record {
        over = sym c.wants_input.ensures.value ∙ c.if-wants_input.false;
        given = record { lines = none.1; unlent = none.0; passed = c.in-Nothing.is };
      },
      stays c.args.self.now _ _ c.lend.ensures.taken none.2,
    )

pub returns-in-Pack-clause-part : goal.returns-in-Pack-clause-part
returns-in-Pack-clause-part g c = λ to is.
    let none = c.lend.ensures.none c.if-lend.false in
    gives_pack c.args.self.now to _ _ c.args.fed.now none.0 none.1 none.2
    (subst (λ (p : Passing). PassesIn p c.args.self.now.passed c.args.fed.now) c.in-Pack.is c.requires) (cc) c.in-Pack.is

pub returns-in-Progress-clause-part : goal.returns-in-Progress-clause-part
returns-in-Progress-clause-part g c = λ to is.
    let none = c.lend.ensures.none c.if-lend.false in
    gives_progress c.args.self.now to _ _ c.args.fed.now none.0 none.1 none.2
    (subst (λ (p : Passing). PassesIn p c.args.self.now.passed c.args.fed.now) c.in-Progress.is c.requires) (cc) c.in-Progress.is

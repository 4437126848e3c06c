use Rattle.std.proofs.Common.{refl, sym, ap, ◌∙◌}
use Rattle.git2show_lib.specs.declared.checker.Needed.TheVariants.{Input}
use Rattle.git2show_lib.specs.declared.checker.Stream.TheVariants.{Requests, Responses}
use Rattle.git2show_lib.proofs.JudgingCalls.{gives_fewer, gives_lines, input_needed, stays_done_so}
use Rattle.git2show_lib.proofs.judging.JudgingMachine.next.Goals as goal

pub returns-in-Lines-clause-part : goal.returns-in-Lines-clause-part
returns-in-Lines-clause-part g c = λ to is. gives_lines c.args.self.now c.take_lent.new.self _ to (cc) c.take_lent.ensures refl refl

pub returns-in-Lines-clause-fewer : goal.returns-in-Lines-clause-fewer
returns-in-Lines-clause-fewer g c = λ to is. gives_fewer c.args.self.now c.take_lent.new.self c.take_lent.ensures

pub returns-in-Lines-clause-done : goal.returns-in-Lines-clause-done
returns-in-Lines-clause-done g c = stays_done_so c.args.self.now.checker c.take_lent.new.self.checker c.take_lent.ensures.stays_done

pub returns-in-Input-Requests-clause-needs_input : goal.returns-in-Input-Requests-clause-needs_input
returns-in-Input-Requests-clause-needs_input g c = λ from is. (
  record {
    stream = Requests;
    is = (cc);
    needs = input_needed Requests (sym c.needed.ensures ∙ c.in-Input-Requests.is ∙ ap Input c.in-Input-Requests.field-0-is);
    all_given = c.take_lent.ensures.all_given;
  },
  c.take_lent.ensures.reaches,
)

pub returns-in-Input-Responses-clause-needs_input : goal.returns-in-Input-Responses-clause-needs_input
returns-in-Input-Responses-clause-needs_input g c = λ from is. (
  record {
    stream = Responses;
    is = (cc);
    needs = input_needed Responses (sym c.needed.ensures ∙ c.in-Input-Responses.is ∙ ap Input c.in-Input-Responses.field-0-is);
    all_given = c.take_lent.ensures.all_given;
  },
  c.take_lent.ensures.reaches,
)

pub returns-in-Nothing-clause-finished : goal.returns-in-Nothing-clause-finished
returns-in-Nothing-clause-finished g c = λ is. (
  record { nothing_needed = sym c.needed.ensures ∙ c.in-Nothing.is; all_given = c.take_lent.ensures.all_given },
  c.take_lent.ensures.reaches,
)

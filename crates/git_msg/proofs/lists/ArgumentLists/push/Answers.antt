use Rattle.std.proofs.Common.{arith, rules, ap}
use Rattle.std.proofs.lemmas.Result.{on_err_weaker, on_ok_weaker}
use Rattle.git_msg.specs.Arguments.{shown}
use Rattle.git_msg.proofs.HeldArguments.{adds_flag, adds_id, adds_number, adds_text, same_ids, same_texts}
use Rattle.git_msg.proofs.RefusedLists.{refused_within}
use Rattle.git_msg.proofs.lists.ArgumentLists.push.Goals as goal

pub returns-in-Flag-clause-ok : goal.returns-in-Flag-clause-ok
returns-in-Flag-clause-ok g c = search (rules, adds_flag)

pub returns-in-Object-clause-ok : goal.returns-in-Object-clause-ok
returns-in-Object-clause-ok g c =
    let ok = c.push.ensures.ok in
    rw (ap shown c.in-Object.is)
    (on_ok_weaker c.push.result (adds_id c.args.self.now c.push.new.self c.in-Object.word c.in-Object.id) (rw c.place.ensures.value at ok))

pub returns-in-Object-clause-unchanged : goal.returns-in-Object-clause-unchanged
returns-in-Object-clause-unchanged g c =
    on_err_weaker c.push.result (λ same. (same_ids c.args.self.now c.push.new.self same.0, omega (arith, same.1))) c.push.ensures.err

pub returns-in-Object-clause-memory : goal.returns-in-Object-clause-memory
returns-in-Object-clause-memory g c = search (rules, refused_within)

pub returns-in-Text-clause-ok : goal.returns-in-Text-clause-ok
returns-in-Text-clause-ok g c =
    rw (ap shown c.in-Text.is)
    (on_ok_weaker c.keep.result (adds_text c.args.self.now c.keep.new.self c.in-Text.word c.in-Text.text.now) c.keep.ensures.ok)

pub returns-in-Text-clause-unchanged : goal.returns-in-Text-clause-unchanged
returns-in-Text-clause-unchanged g c =
    on_err_weaker c.keep.result (λ same. (same_texts c.args.self.now c.keep.new.self same.0, omega (arith, same.1))) c.keep.ensures.err

pub returns-in-Text-clause-memory : goal.returns-in-Text-clause-memory
returns-in-Text-clause-memory g c = search (rules, refused_within)

pub returns-in-Number-clause-ok : goal.returns-in-Number-clause-ok
returns-in-Number-clause-ok g c = search (rules, adds_number)

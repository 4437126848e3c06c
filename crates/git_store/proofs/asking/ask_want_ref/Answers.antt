use Rattle.std.proofs.Common.{rules, refl}
use Rattle.std.proofs.lemmas.Result.{err_from_is_err_and}
use Rattle.git_store.specs.Questions.{ask_want_ref}
use Rattle.git_store.proofs.asking.ask_want_ref.Goals as goal

pub returns-in_err-id : goal.returns-in_err-id
returns-in_err-id g c =
    let p = err_from_is_err_and c.from_residual.result c.from_residual.ensures.1 in
    rw p.1 (record {
      question = ask_want_ref c.in-Some-text.name.now;
      reply = _;
      is_asked = search rules;
      replied = c.in_err-id.ensures;
      none = search rules;
      same = refl;
    })

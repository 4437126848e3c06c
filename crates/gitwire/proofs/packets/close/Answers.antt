use Rattle.std.proofs.Common.{rules, Some}
use Rattle.gitwire.proofs.packets.close.Goals as goal

pub returns-in-Err : goal.returns-in-Err
returns-in-Err c = record {
  fault = Some c.in-Err.fault;
  ends = record {
    stays = search rules;
    repeats = λ earlier was. let again = c.in-Err.ensures.repeats earlier was in (search rules, again.1);
    truncated = search rules;
  };
  carries = search rules;
  answer_is = search rules;
}

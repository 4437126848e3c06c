use Rattle.std.proofs.Common.{refl}
use Rattle.git_server.proofs.laws.methods_make_calls.Goals as goal

pub returns : goal.returns
returns g c = record {
  fed = λ old new chunk used before after within goes pays memory. record { within = within; goes = goes; pays = pays; memory = memory };
  pulled = λ old new answer steps pulls. (pulls, refl);
  closed = λ old new steps waits closes credit. (record { waits = waits; closes = closes; credit = credit }, refl);
  none = λ server steps. (refl, refl);
  more = λ call calls before next after old between new made others. (next, between, made, others);
}

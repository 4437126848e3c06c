use Rattle.std.proofs.Common.{refl}
use Rattle.git_client.proofs.laws.methods_make_calls.Goals as goal

pub returns : goal.returns
returns g c = record {
  asked = λ old new request steps asks. (asks, refl);
  refused = λ old new request back fault steps refuses. (refuses, refl);
  left = λ old new steps leaves. (leaves, refl);
  pulled = λ old new sent steps pulls. (pulls, refl);
  fed = λ old new chunk answer before after feeds used pays. (feeds, used, pays);
  closed = λ old new fault steps waits carries refused kind offset credit. (
    record { waits = waits; carries = carries; refused = refused; kind = kind; offset = offset; credit = credit },
    refl,
  );
  chosen = λ old new steps chosen. (chosen, refl, refl);
  any = λ call before after old new made. made;
  none = λ client steps. (refl, refl);
  more = λ call calls before next after old between new made others. (next, between, made, others);
}

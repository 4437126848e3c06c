use Rattle.std.proofs.Common.{refl, ap}
use Rattle.git2show_lib.specs.OtherLines.{Noted}
use Rattle.git2show_lib.proofs.CheckerCalls.{opens}
use Rattle.git2show_lib.proofs.checker.Checker.new.Goals as goal

pub returns : goal.returns
returns g c = record {
  terms = refl;
  limit_is = refl;
  requests_closed = refl;
  responses_closed = refl;
  stands = (
    refl,
    refl,
    refl,
    opens c.new-client.result c.no_counts.result c.new.result c.new-7.result c.new-8.result c.new-client.ensures.converses c.new-client.ensures.waits
        c.no_counts.ensures c.new.ensures.notes c.new.ensures.gathers c.new-7.ensures (ap (λ (n : Noted). n.lines) c.new-8.ensures),
  );
}

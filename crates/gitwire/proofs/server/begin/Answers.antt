use Rattle.std.proofs.Common.{arith, inr, refl}
use Rattle.gitwire.specs.ServerAnswers.{Starts}
use Rattle.gitwire.proofs.Making.{made_so, none_made}
use Rattle.gitwire.proofs.server.begin.Goals as goal

pub returns-in_default-make : goal.returns-in_default-make
returns-in_default-make c = record {
  too_much = λ more. absurd (omega (arith, c.if-limit-gt-MOST_LIMIT.false, more));
  in_range = λ _. inr (c.in-Some.agent, c.in-Some.ensures, none_made _ _ _ c.none.ensures c.number-in_default-make.ensures);
}

pub returns : goal.returns
returns c = record {
  too_much = λ more. absurd (omega (arith, c.if-limit-gt-MOST_LIMIT.false, more));
  in_range = λ _. inr (
    c.in-Some.agent,
    c.in-Some.ensures,
    made_so (Starts c.args.repo.now c.args.limit c.args.advertise c.in-Some.agent) c.fill.result c.number-2.result _ c.in-Some-make.made.value _
        c.number-2.ensures refl c.fill.ensures c.in-Some-make.ensures,
  );
}

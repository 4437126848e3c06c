use Rattle.std.proofs.Common.{arith, []}
use Rattle.git_client.specs.Parts.{terms_of}
use Rattle.git2show_lib.specs.Machine.Checker.{nothing_fed}
use Rattle.gitwire.specs.CheckerAnswers.{HasChecked}
use Rattle.gitwire.proofs.Making.{made_so}
use Rattle.gitwire.proofs.checker.gitwire_checker_init.Goals as goal

pub returns : goal.returns
returns c =
    let t = terms_of c.in-Some.format c.in-Some-ending_numbered.ending in
    rw (← c.in-Some.ensures, ← c.in-Some-ending_numbered.ensures) (record {
      too_much = λ more. absurd (omega (arith, c.if-limit-gt-MOST_LIMIT.false, more));
      in_range = λ _. made_so (HasChecked t c.args.limit nothing_fed nothing_fed []) c.fill.result c.number-2.result c.in-Ok.made.value c.new.result _
          c.number-2.ensures
          c.in-Ok.ensures.ok c.fill.ensures c.new.ensures;
    })

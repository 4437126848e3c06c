use Rattle.std.proofs.Common.{false, refl}
use Rattle.git2show_lib.specs.declared.checker.Turn.TheVariants.{End}
use Rattle.git2show_lib.proofs.CheckerStands.{check_of, over_as, still_open, stood}
use Rattle.git2show_lib.proofs.CheckerResponses.{ends_not}
use Rattle.git2show_lib.proofs.checker.Checker.feed_end.Goals as goal

pub returns-clause-carries : goal.returns-clause-carries
returns-clause-carries g c byte t limit requests responses lent k =
    let was = stood c.args.self.now End c.requires.turn k in
    over_as _ _ false refl (still_open c.args.self.now End c.requires.turn (λ none. absurd (cc))) (check_of k)
    (ends_not was byte c.place.result c.place.ensures _)

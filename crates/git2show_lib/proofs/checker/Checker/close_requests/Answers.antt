use Rattle.std.proofs.Common.{refl}
use Rattle.git2show_lib.specs.declared.checker.Turn.TheVariants.{Request, End, Over}
use Rattle.git2show_lib.proofs.CheckerStands.{fits_in, stands_as, stood}
use Rattle.git2show_lib.proofs.CheckerRequests.{closed_inside, closed_whole}
use Rattle.git2show_lib.proofs.checker.Checker.close_requests.Goals as goal
use Rattle.git2show_lib.proofs.checker.Checker.close_requests.Goals.{in-Ok, in-Err}

pub returns-clause-carries : goal.returns-clause-carries
returns-clause-carries g c t limit requests responses lent k =
    let was = (stood c.args.self.now Request c.requires.turn k).0 in
    let fits = fits_in c.args.self.now Request c.requires.turn in
    elim c.match-close.branch [
      | in-Ok w ↦ stands_as _ End w.self-is (k.terms, k.limit_is, refl, k.responses_closed) (closed_whole was.checking w.in-Ok.ensures)
      | in-Err w ↦ stands_as _ (Over _) w.self-is (k.terms, k.limit_is, refl, k.responses_closed) (rw fits.2 (
          closed_inside was.checking w.in-Err.ensures _))
    ]

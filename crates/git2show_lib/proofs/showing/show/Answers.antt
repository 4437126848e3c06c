use Rattle.git2show_lib.proofs.Printing.{without_view}
use Rattle.git2show_lib.proofs.showing.show.Goals as goal

pub returns-clause-shown : goal.returns-clause-shown
returns-clause-shown g c = without_view c.show_by.ensures.shown

use Rattle.git2show_lib.proofs.PrettyPrintable.{line_is_printable}
use Rattle.git2show_lib.proofs.PrettyWidths.{colours_alone, line_fits}
use Rattle.git2show_lib.proofs.view_laws.pretty_lines_fit.Goals as goal

pub returns-clause-fits : goal.returns-clause-fits
returns-clause-fits c = line_fits

pub returns-clause-printable : goal.returns-clause-printable
returns-clause-printable c = line_is_printable

pub returns-clause-colours : goal.returns-clause-colours
returns-clause-colours c = colours_alone

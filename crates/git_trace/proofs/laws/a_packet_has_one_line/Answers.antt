use Rattle.std.proofs.Common.{◌∙◌, ap}
use Rattle.git_trace.specs.ShownLines.{shown_if}
use Rattle.git_trace.proofs.OneLine.{line_is_one, name_is_on}
use Rattle.git_trace.proofs.laws.a_packet_has_one_line.Goals as goal

pub returns-clause-packet : goal.returns-clause-packet
returns-clause-packet c look line traced e =
    let one = line_is_one look traced (name_is_on line traced e) in
    (one.0, ap (shown_if look) e ∙ one.1, one.2)

pub returns-clause-other : goal.returns-clause-other
returns-clause-other c look line e = ap (shown_if look) e

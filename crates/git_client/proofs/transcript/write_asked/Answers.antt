use Rattle.git_client.proofs.Writing.{sends_lines, lines_stopped}
use Rattle.git_client.proofs.transcript.write_asked.Goals as goal

pub returns-in_err-put_line : goal.returns-in_err-put_line
returns-in_err-put_line g c =
    rw c.asked_row.ensures.line at (lines_stopped c.new-lines.ensures c.in_err-put_line.ensures c.from_residual.ensures.1)

pub returns : goal.returns
returns g c = rw c.asked_row.ensures.line at (sends_lines c.new-lines.ensures c.in_ok-put_line.ensures c.drain.ensures.sends)

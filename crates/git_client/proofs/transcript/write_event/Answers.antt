use Rattle.git_client.proofs.Writing.{sends_lines, lines_stopped}
use Rattle.git_client.proofs.transcript.write_event.Goals as goal

pub returns-in_err-put_event : goal.returns-in_err-put_event
returns-in_err-put_event g c = lines_stopped c.new-lines.ensures c.in_err-put_event.ensures c.from_residual.ensures.1

pub returns : goal.returns
returns g c = sends_lines c.new-lines.ensures c.in_ok-put_event.ensures c.drain.ensures.sends

use Rattle.git_pkt.proofs.Sends.{puts_sent, puts_unsent}
use Rattle.git_client.proofs.line.Lines.put.Goals as goal

pub returns-in_err-drain : goal.returns-in_err-drain
returns-in_err-drain g c = puts_unsent c.args.bytes.now c.in_err-drain.ensures.sends c.from_residual.ensures.1

pub returns : goal.returns
returns g c = puts_sent c.in_ok-drain.ensures.sends c.send.ensures.sends c.in_ok-drain.ensures.empty

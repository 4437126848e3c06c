use Rattle.git_pkt.proofs.Sends.{sends_front, sends_then}
use Rattle.git2show_lib.proofs.views.send_marked.Goals as goal

pub returns-in_err-send : goal.returns-in_err-send
returns-in_err-send g c = sends_front c.args.line.now c.in_err-send.ensures.sends c.from_residual.ensures.1

pub returns : goal.returns
returns g c = sends_then c.in_ok-send.ensures.sends c.send-2.ensures.sends

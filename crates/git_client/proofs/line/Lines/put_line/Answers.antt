use Rattle.std.proofs.Common.{rules, [], sym, refl, append-nil}
use Rattle.git_pkt.proofs.Sends.{puts_then, puts_waiting}
use Rattle.git_client.proofs.Writing.{puts_part, part_stopped, all_put}
use Rattle.git_client.proofs.line.Lines.put_line.Goals as goal

pub loop-part-init : goal.loop-part-init
loop-part-init g c = record { put = []; puts = puts_waiting (sym (append-nil _)); left = refl }

pub returns-in_err-put_part : goal.returns-in_err-put_part
returns-in_err-put_part g c =
    part_stopped c.part-item.result c.loop-part.invariant c.loop-part-test.true c.part-item.is c.in_err-put_part.ensures c.from_residual.ensures.1

pub loop-part-preserved : goal.loop-part-preserved
loop-part-preserved g c = puts_part c.part-item.result c.loop-part.invariant c.loop-part-test.true c.part-item.is c.in_ok-put_part.ensures

pub returns : goal.returns
returns g c = rw (← all_put c.loop-part.invariant (search rules)) (puts_then c.loop-part.invariant.puts c.put.ensures)

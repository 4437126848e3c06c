use Rattle.git_client.proofs.Announcing.{written_by}
use Rattle.git_client.proofs.WaitingLines.{put_drained, put_undrained, unwritten}
use Rattle.git_client.proofs.receiving.send_after.Goals as goal

pub returns-in_err-drain-clause-announced : goal.returns-in_err-drain-clause-announced
returns-in_err-drain-clause-announced g c = put_undrained c.from_residual.result c.in_err-drain.ensures.sends c.from_residual.ensures.1

pub returns-in_err-drain-clause-sent : goal.returns-in_err-drain-clause-sent
returns-in_err-drain-clause-sent g c = unwritten c.from_residual.result _ c.args.bytes.now c.in_err-drain.ensures.sends c.from_residual.ensures.1

pub returns-clause-announced : goal.returns-clause-announced
returns-clause-announced g c = put_drained _ c.in_ok-drain.ensures.sends c.in_ok-drain.ensures.empty

pub returns-clause-sent : goal.returns-clause-sent
returns-clause-sent g c = written_by c.send.result _ _ _ c.send.ensures.ok c.send.ensures.err c.send.ensures.fault

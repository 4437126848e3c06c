use Rattle.std.proofs.Common.{rules}
use Rattle.git_client.proofs.judge.judge_line.Goals as goal

pub returns-in_err-next-in-Header-clause-turn : goal.returns-in_err-next-in-Header-clause-turn
returns-in_err-next-in-Header-clause-turn c = let fault = c.in_err-next-in-Header.ensures c.args.format in search rules

pub returns-in_ok-next-in-Header-clause-turn : goal.returns-in_ok-next-in-Header-clause-turn
returns-in_ok-next-in-Header-clause-turn c = let line = c.in_ok-next-in-Header.ensures c.args.format in search rules

use Rattle.git_client.proofs.judge.judge.Goals as goal

pub returns-in-Payload-clause-turn : goal.returns-in-Payload-clause-turn
returns-in-Payload-clause-turn c = rw c.in-Payload.is (c.judge_payload.ensures.turn c.args.ending)

pub returns-in-Delim-clause-turn : goal.returns-in-Delim-clause-turn
returns-in-Delim-clause-turn c = rw c.in-Delim.is (c.judge_delimiter.ensures.turn c.args.format c.args.ending c.args.caps.now)

pub returns-in-RespEnd-clause-turn : goal.returns-in-RespEnd-clause-turn
returns-in-RespEnd-clause-turn c = rw c.in-RespEnd.is (c.judge_response_end.ensures.turn c.args.format c.args.ending c.args.caps.now)

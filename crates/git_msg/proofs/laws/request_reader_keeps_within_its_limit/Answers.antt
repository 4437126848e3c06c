use Rattle.git_msg.proofs.laws.request_reader_keeps_within_its_limit.Goals as goal

pub returns-clause-stored : goal.returns-clause-stored
returns-clause-stored g c = λ reader. reader.bounded.covered

pub returns-clause-kept : goal.returns-clause-kept
returns-clause-kept g c = λ reader. reader.bounded.within

use Rattle.git_msg.proofs.reader.RequestReader.step.Goals as goal

pub returns-in_default-clause-goes_on : goal.returns-in_default-clause-goes_on
returns-in_default-clause-goes_on g c = c.take_capability.ensures.goes_on _

use Rattle.git_msg.proofs.AddedArguments.{added_asked, added_kept, added_stored}
use Rattle.git_msg.proofs.laws.added_arguments_are_asked_for.Goals as goal

pub returns-clause-asked : goal.returns-clause-asked
returns-clause-asked g c = added_asked

pub returns-clause-kept : goal.returns-clause-kept
returns-clause-kept g c = added_kept

pub returns-clause-stored : goal.returns-clause-stored
returns-clause-stored g c = added_stored

use Rattle.git_names.proofs.Beginnings.{beginnings}
use Rattle.git_names.proofs.laws.ref_name_begins.Goals as goal

pub returns : goal.returns
returns c = beginnings

use Rattle.git_names.proofs.ObjectNames.{one_object_name}
use Rattle.git_names.proofs.laws.text_is_one_object_name.Goals as goal

pub returns : goal.returns
returns c = one_object_name

use Rattle.git_names.proofs.WrittenForms.{digits-object_name}
use Rattle.git_names.proofs.laws.object_name_is_digits.Goals as goal

pub returns : goal.returns
returns c = digits-object_name

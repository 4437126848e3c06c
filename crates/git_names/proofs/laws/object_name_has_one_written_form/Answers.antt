use Rattle.git_names.proofs.WrittenForms.{hex_of-lower, lower-hex_of}
use Rattle.git_names.proofs.laws.object_name_has_one_written_form.Goals as goal

pub returns-clause-lower : goal.returns-clause-lower
returns-clause-lower c = lower-hex_of

pub returns-clause-one : goal.returns-clause-one
returns-clause-one c = hex_of-lower

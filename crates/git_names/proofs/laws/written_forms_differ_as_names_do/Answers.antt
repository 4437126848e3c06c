use Rattle.git_names.proofs.WrittenForms.{hex_of-apart}
use Rattle.git_names.proofs.laws.written_forms_differ_as_names_do.Goals as goal

pub returns : goal.returns
returns c = hex_of-apart

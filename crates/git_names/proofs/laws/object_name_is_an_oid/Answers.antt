use Rattle.git_names.proofs.ObjectNames.{IsOid-of_text}
use Rattle.git_names.proofs.laws.object_name_is_an_oid.Goals as goal

pub returns : goal.returns
returns c = IsOid-of_text

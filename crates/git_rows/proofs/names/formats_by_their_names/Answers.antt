use Rattle.std.proofs.Common.{refl}
use Rattle.git_names.specs.declared.object_format.Format.TheVariants.{Sha1}
use Rattle.git_rows.proofs.names.formats_by_their_names.Goals as goal

pub returns-clause-not_of_sha1 : goal.returns-clause-not_of_sha1
returns-clause-not_of_sha1 c = λ none. none Sha1 refl

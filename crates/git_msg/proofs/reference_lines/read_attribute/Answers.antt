use Rattle.std.proofs.Common.{rules}
use Rattle.git_msg.proofs.ReferenceWords.{other_found}
use Rattle.git_msg.proofs.reference_lines.read_attribute.Goals as goal

pub returns-in_default-after-clause-attribute : goal.returns-in_default-after-clause-attribute
returns-in_default-after-clause-attribute c = (other_found c.args.format c.args.word.now c.args.end _ (search rules) (search rules))

use Rattle.std.proofs.Common.{refl}
use Rattle.git_msg.proofs.ReferenceLines.{lacking_is_unspaced, word_alone}
use Rattle.git_msg.proofs.reference_lines.split_name.Goals as goal

pub returns-in-Ok-clause-parts : goal.returns-in-Ok-clause-parts
returns-in-Ok-clause-parts c =
    let is_name = c.in-Ok.ensures.name.1 in
    (record {
      words = word_alone c.args.text.now (lacking_is_unspaced c.args.text.now is_name.no_space);
      cut = (refl, is_name.no_space);
      is_name = is_name;
    })

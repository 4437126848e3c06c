use Rattle.std.proofs.Common.{◌∙◌, sym, refl}
use Rattle.git_msg.proofs.TextParts.{parts_at, one_part, parted_at, no_such_byte}
use Rattle.git_msg.proofs.texts.split_at_first.Goals as goal

pub returns-in-Some-clause-parts : goal.returns-in-Some-clause-parts
returns-in-Some-clause-parts c = parts_at c.args.byte c.args.text.now c.in-Some.at (sym c.find_byte.ensures.value ∙ c.in-Some.is)

pub returns-in-None-clause-parts : goal.returns-in-None-clause-parts
returns-in-None-clause-parts c = one_part c.args.byte c.args.text.now (sym c.find_byte.ensures.value ∙ c.in-None.is)

pub returns-in-Some-clause-cut : goal.returns-in-Some-clause-cut
returns-in-Some-clause-cut c = parted_at c.args.byte c.args.text.now c.in-Some.at (sym c.find_byte.ensures.value ∙ c.in-Some.is)

pub returns-in-None-clause-cut : goal.returns-in-None-clause-cut
returns-in-None-clause-cut c = (refl, no_such_byte c.args.byte c.args.text.now (sym c.find_byte.ensures.value ∙ c.in-None.is))

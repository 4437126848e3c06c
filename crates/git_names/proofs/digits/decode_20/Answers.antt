use Rattle.std.proofs.Common.{arith}
use Rattle.git_names.specs.declared.object_format.Format.TheVariants.{Sha1}
use Rattle.git_names.proofs.Joined.{name_20, no_name_20}
use Rattle.git_names.proofs.ObjectNames.{Decodes-name, Decodes-no_name, no_name_of_length}
use Rattle.git_names.proofs.digits.decode_20.Goals as goal

pub returns-then-text-ne40-clause-value : goal.returns-then-text-ne40-clause-value
returns-then-text-ne40-clause-value c = Decodes-no_name Sha1 c.args.text.now (no_name_of_length Sha1 c.args.text.now (c.if-text-ne40.true))

pub returns-in_default-clause-value : goal.returns-in_default-clause-value
returns-in_default-clause-value c =
    Decodes-no_name Sha1 c.args.text.now (no_name_20 c.args.text.now (omega arith) (rw c.laid_out.ensures.value at c.in_default.ensures.values))

pub returns-clause-value : goal.returns-clause-value
returns-clause-value c =
    Decodes-name Sha1 c.args.text.now c.joined_20.result
    (name_20 c.args.text.now c.in-Some.values c.joined_20.result (omega arith) c.joined_20.ensures.size
    (rw c.laid_out.ensures.value at c.in-Some.ensures.values) c.joined_20.ensures.front c.joined_20.ensures.back c.joined_20.ensures.after)

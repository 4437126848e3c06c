use Rattle.std.proofs.Common.{arith}
use Rattle.git_names.specs.declared.object_format.Format.TheVariants.{Sha256}
use Rattle.git_names.proofs.Joined.{name_32, no_name_32}
use Rattle.git_names.proofs.ObjectNames.{Decodes-name, Decodes-no_name, no_name_of_length}
use Rattle.git_names.proofs.digits.decode_32.Goals as goal

pub returns-then-text-ne64-clause-value : goal.returns-then-text-ne64-clause-value
returns-then-text-ne64-clause-value c = Decodes-no_name Sha256 c.args.text.now (no_name_of_length Sha256 c.args.text.now (c.if-text-ne64.true))

pub returns-in_default-clause-value : goal.returns-in_default-clause-value
returns-in_default-clause-value c =
    Decodes-no_name Sha256 c.args.text.now (no_name_32 c.args.text.now (rw c.copy_from_slice.ensures.after at c.in_default.ensures.values))

pub returns-clause-value : goal.returns-clause-value
returns-clause-value c =
    Decodes-name Sha256 c.args.text.now c.joined_32.result
    (name_32 c.args.text.now c.in-Some.values c.joined_32.result (omega arith) c.joined_32.ensures.size
    (rw c.copy_from_slice.ensures.after at c.in-Some.ensures.values) c.joined_32.ensures.value)

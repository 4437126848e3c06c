use Rattle.std.proofs.Common.{refl}
use Rattle.git_host.proofs.WrittenIds.{spells_itself}
use Rattle.git_host.proofs.written_digits.written_digits.Goals as goal

pub returns-then-are_written : goal.returns-then-are_written
returns-then-are_written c =
    spells_itself c.args.format c.args.text.now c.object_name_has_one_written_form.ensures.one (c.if-are_written.ensures.count refl)
    (c.if-are_written.ensures.lower refl)

use Rattle.std.proofs.Common.{Some, refl, ap}
use Rattle.git_host.specs.WrittenDigits.{SpellsId}
use Rattle.git_host.proofs.reference_texts.check_attributes.Goals as goal

pub returns-in-Some-written_digits : goal.returns-in-Some-written_digits
returns-in-Some-written_digits c =
    let spells : SpellsId c.args.format c.in-Some.text.now c.in-Some-written_digits.digits.now = c.in-Some-written_digits.ensures in
    rw c.in-Some.is (record {
      by_target = c.in_ok-check_target.ensures;
      id = Some spells.id;
      is_peeled = (spells.id, spells.named, refl);
      written = ap Some spells.written;
    })

pub returns-in-None : goal.returns-in-None
returns-in-None c = rw c.in-Some.is (c.in_ok-check_target.ensures, (c.in-Some.text.now, refl, c.in-None.ensures))

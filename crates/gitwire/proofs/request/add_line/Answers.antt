use Rattle.std.proofs.Common.{refl, inl}
use Rattle.gitwire.proofs.request.add_line.Goals as goal

pub returns-in-Err : goal.returns-in-Err
returns-in-Err c =
    let refused = c.in-Err.ensures.argument in (refl, inl (rw (c.command.ensures, c.everything-offer.ensures, c.format.ensures) at refused))

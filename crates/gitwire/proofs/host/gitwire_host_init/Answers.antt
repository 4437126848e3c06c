use Rattle.std.proofs.Common.{inr}
use Rattle.gitwire.proofs.Making.{made}
use Rattle.gitwire.proofs.host.gitwire_host_init.Goals as goal

pub returns-in_default-new : goal.returns-in_default-new
returns-in_default-new c = inr (c.in-Some.meant, c.in-Some.ensures, inr (c.number-in_default-new.ensures, c.none.ensures))

pub returns : goal.returns
returns c =
    inr (
      c.in-Some.meant,
      c.in-Some.ensures,
      made c.fill.result c.number-2.result c.in-Ok.made.value c.in-Some.meant _ c.number-2.ensures c.in-Ok.ensures.ok c.fill.ensures,
    )

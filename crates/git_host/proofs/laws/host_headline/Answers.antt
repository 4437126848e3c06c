use Rattle.std.proofs.Common.{arith, ap, length}
use Rattle.git_host.proofs.HostCallMoves.{after_calls}
use Rattle.git_host.proofs.laws.host_headline.Goals as goal

pub returns : goal.returns
returns g c s calls before after first fresh no_credit made = after_calls g.A.Memory.refuses s calls before after first c.args.server.now fresh no_credit made
    (omega (arith, ap length c.packet.ensures.value, c.packet.ensures.fits))

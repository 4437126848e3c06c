use Rattle.std.proofs.Common.{arith}
use Rattle.git_pkt.proofs.FaultTexts.{decimal_fits}
use Rattle.git_msg.proofs.requests.number_length.Goals as goal

pub overflow_add-result : goal.overflow_add-result
overflow_add-result c = omega (arith, decimal_fits c.args.number c.ranges.number.fits)

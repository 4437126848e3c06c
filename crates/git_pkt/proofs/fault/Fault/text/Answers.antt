use Rattle.std.proofs.Common.{arith, ap, length}
use Rattle.git_pkt.proofs.FaultTexts.{kind_name_fits, decimal_fits}
use Rattle.git_pkt.proofs.fault.Fault.text.Goals as goal

pub push_str-requires-3 : goal.push_str-requires-3
push_str-requires-3 c =
    omega (arith, kind_name_fits c.args.self.now.kind, decimal_fits c.args.self.now.offset, ap length c.name.ensures, ap length c.new-text.ensures)

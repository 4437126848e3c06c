use Rattle.git_pkt.specs.declared.reader.State.TheVariants.{Gathering}
use Rattle.git_pkt.proofs.Kept.{kept_in}
use Rattle.git_pkt.proofs.reader.PacketReader.come.Goals as goal

pub returns-in-Gathering-clause-behind : goal.returns-in-Gathering-clause-behind
returns-in-Gathering-clause-behind c = (kept_in c.args.self.now (Gathering c.in-Gathering.count) c.in-Gathering.is).behind

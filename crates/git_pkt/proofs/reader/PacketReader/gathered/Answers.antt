use Rattle.git_pkt.specs.declared.reader.State.TheVariants.{Gathering}
use Rattle.git_pkt.proofs.Kept.{kept_in}
use Rattle.git_pkt.proofs.reader.PacketReader.gathered.Goals as goal

pub returns-in-Gathering-clause-within : goal.returns-in-Gathering-clause-within
returns-in-Gathering-clause-within c = (kept_in c.args.self.now (Gathering c.in-Gathering.count) c.in-Gathering.is).within

pub returns-in-Gathering-clause-kept : goal.returns-in-Gathering-clause-kept
returns-in-Gathering-clause-kept c = λ some. kept_in c.args.self.now (Gathering c.in-Gathering.count) c.in-Gathering.is

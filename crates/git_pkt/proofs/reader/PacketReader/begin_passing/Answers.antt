use Rattle.std.proofs.Common.{arith, refl}
use Rattle.git_pkt.proofs.Kept.{sound_gathering}
use Rattle.git_pkt.proofs.KnownRest.{all_is_held}
use Rattle.git_pkt.proofs.BandPasses.{bands_begin}
use Rattle.git_pkt.proofs.BandSteps.{rest_long}
use Rattle.git_pkt.proofs.reader.PacketReader.begin_passing.Goals as goal

pub returns-clause-goes : goal.returns-clause-goes
returns-clause-goes c =
    bands_begin c.args.self.now _ _ (sound_gathering c.args.self.now.state c.requires.five) c.requires.gathers c.requires.five
    c.truncate.ensures.items refl refl refl refl

pub returns-clause-rises : goal.returns-clause-rises
returns-clause-rises c =
    omega (arith, all_is_held c.args.self.now c.requires.gathers, rest_long c.args.self.now, c.requires.five)

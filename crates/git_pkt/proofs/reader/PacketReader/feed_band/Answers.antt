use Rattle.std.proofs.Common.{arith, refl, ap}
use Rattle.git_pkt.specs.Machine.ReaderState.{fault_in}
use Rattle.git_pkt.proofs.Kept.{sound_unless}
use Rattle.git_pkt.proofs.BandFeeds.{feeds_again, feeds_step, has_part}
use Rattle.git_pkt.proofs.reader.PacketReader.feed_band.Goals as goal

pub returns-in-Failed : goal.returns-in-Failed
returns-in-Failed c = (
  (refl, (λ _. tt), feeds_again c.args.self.now c.args.chunk.now c.in-Failed.fault (ap fault_in c.in-Failed.is) c.requires.passes),
  record { after = tt; used = omega arith; cost = record { rises = omega arith; within = omega arith } },
)

pub fed-requires : goal.fed-requires
fed-requires c = record {
  part = has_part c.args.self.now c.band_steps-step.new.self c.args.chunk.now c.band_steps-step.result.used
      (sound_unless c.args.self.now.state c.in_default.not-Failed) c.band_steps-step.ensures.keeps c.band_steps-step.result.progress
      c.band_steps-step.ensures.moves
      c.band_steps-step.ensures.used;
  all = c.band_steps-step.ensures.used;
}

pub returns-in_default-progress : goal.returns-in_default-progress
returns-in_default-progress c = (
  (
    refl,
    (λ _. tt),
    feeds_step c.args.self.now c.band_steps-step.new.self c.args.chunk.now c.band_steps-step.result.used
        (sound_unless c.args.self.now.state c.in_default.not-Failed) c.band_steps-step.ensures.keeps c.band_steps-step.result.progress c.fed.result
        c.band_steps-step.ensures.moves
        c.band_steps-step.ensures.used c.in_default-progress.not-Whole c.band_steps-step.ensures.some c.fed.ensures.used c.fed.ensures.got,
  ),
  record {
    after = tt;
    used = omega (arith, c.fed.ensures.used, c.band_steps-step.ensures.used);
    cost = record {
      rises = c.band_steps-step.ensures.cost.rises;
      within = omega (arith, c.fed.ensures.used, c.band_steps-step.ensures.cost.within);
    };
  },
)

use Rattle.std.proofs.Common.{arith, ap, subst, ℕ, ◌∙◌}
use Rattle.git_pkt.specs.Machine.PassedOut.{HandsOut}
use Rattle.git_pkt.specs.Machine.ReaderState.{fault_in}
use Rattle.git_pkt.specs.declared.progress.BandProgress.{BandProgress}
use Rattle.git_pkt.specs.declared.progress.BandProgress.TheVariants.{Part}
use Rattle.git_pkt.proofs.BandFeeds.{feeds_step}
use Rattle.git_pkt.proofs.reader.PacketReader.pass_whole.Goals as goal

pub returns-clause-feeds : goal.returns-clause-feeds
returns-clause-feeds c =
    let chunk = c.args.chunk.now in
    let got = c.fed.result.got in
    let passed : HandsOut (Part c.in-Some.part) c.of_part.result.used chunk got =
    subst (λ (p : BandProgress). HandsOut p c.of_part.result.used chunk got) c.of_part.ensures.progress c.fed.ensures.got in
    feeds_step c.args.self.now c.pass_at_once.new.self chunk _ (ap fault_in c.in-Between.is) (λ none. absurd (omega (arith, none)))
    (Part c.in-Some.part) c.fed.result c.in-Some.ensures.moves c.in-Some.ensures.within (λ whole. cc) (λ empty. cc)
    (c.fed.ensures.used ∙ c.of_part.ensures.used) (subst (λ (n : ℕ). HandsOut (Part c.in-Some.part) n chunk got) c.of_part.ensures.used passed)

use Rattle.std.proofs.Common.{◌≡◌, ap, sym, ◌∙◌, refl}
use Rattle.git_pkt.specs.Machine.PacketReader.{fault_of, is_open}
use Rattle.git_pkt.specs.declared.fault.Kind.TheVariants.{StreamTooLong, Truncated}
use Rattle.git2show_lib.specs.declared.shower.Phase.TheVariants.{Closed, Stopped}
use Rattle.git2show_lib.proofs.Printing.{reaches_closed}
use Rattle.git2show_lib.proofs.shower.ShowerMachine.close.Goals as goal

pub returns-in-Ok-clause-reaches : goal.returns-in-Ok-clause-reaches
returns-in-Ok-clause-reaches g c =
    let between = c.in-Ok.ensures.between in
    reaches_closed g.V.Renderer.view c.args.self.now c.args.from _ Closed c.requires.0 c.close.ensures.carries
    (ap fault_of between.0 ∙ between.1, ap is_open between.0 ∙ between.2, refl)

pub returns-in-Err-clause-reaches : goal.returns-in-Err-clause-reaches
returns-in-Err-clause-reaches g c =
    reaches_closed g.V.Renderer.view c.args.self.now c.args.from _ (Stopped _) c.requires.0 c.close.ensures.carries (c.in-Err.ensures.announced, λ e. refl)

pub returns-in-Err-clause-short : goal.returns-in-Err-clause-short
returns-in-Err-clause-short g c = λ reachable k short.
    let cut = c.in-Err.ensures.truncated (c.requires.1.sound.sound c.requires.1.gathering) in
    let no : Truncated ≡ StreamTooLong = sym cut.1 ∙ short.1 in absurd (cc)

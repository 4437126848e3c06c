use Rattle.std.proofs.Common.{◌≡◌, ◌-◌, take, length, ℕ, List, arith, subst, ◌∙◌}
use Rattle.std.proofs.lemmas.List.{length-take-le}
use Rattle.std.proofs.lemmas.Grind.{common_steps}
use Rattle.git_pkt.specs.Faults.{last_position}
use Rattle.git_pkt.specs.Machine.PacketReader.{position_of}
use Rattle.git_pkt.specs.Machine.PacketReaderSteps.{Moves}
use Rattle.git_pkt.specs.declared.progress.Progress.{Progress}
use Rattle.git_pkt.specs.declared.progress.Progress.TheVariants.{Open}
use Rattle.git_pkt.proofs.ReaderMoves.{stopped_at_last}
use Rattle.git_pkt.proofs.reader.PacketReader.step.Goals as goal

pub returns-in-Open-clause-moves : goal.returns-in-Open-clause-moves
returns-in-Open-clause-moves c =
    let space : ℕ = 9223372036854775807 - c.args.self.now.position in
    let fits : length (take space c.args.chunk.now) ≡ space = length-take-le _ _ (omega arith) in
    let used : c.gather-step.result.used ≡ space = c.gather-step.ensures.all c.in-Open.is ∙ fits in
    let taken : take c.gather-step.result.used (take space c.args.chunk.now) ≡ take c.gather-step.result.used c.args.chunk.now =
    grind (arith, common_steps) in
    let moves : Moves c.args.self.now (take c.gather-step.result.used c.args.chunk.now) Open c.gather-step.new.self =
    subst (λ (l : List ℕ). Moves c.args.self.now l Open c.gather-step.new.self) taken
    (subst (λ (p : Progress). Moves c.args.self.now (take c.gather-step.result.used (take space c.args.chunk.now)) p c.gather-step.new.self)
    c.in-Open.is c.gather-step.ensures.moves) in
    let long : length (take c.gather-step.result.used c.args.chunk.now) ≡ c.gather-step.result.used = length-take-le _ _ (omega arith) in
    let last : position_of c.gather-step.new.self ≡ last_position = omega (arith, moves.position, c.args.self.now.within) in
    stopped_at_last c.args.self.now c.gather-step.new.self _ _ _ moves c.stop-fault.ensures.announced last

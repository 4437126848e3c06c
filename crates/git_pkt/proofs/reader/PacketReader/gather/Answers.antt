use Rattle.std.proofs.Common.{take, ℕ, List, arith, subst}
use Rattle.git_pkt.specs.Machine.PacketReaderSteps.{Moves}
use Rattle.git_pkt.proofs.ReaderMoves.{moves_on}
use Rattle.git_pkt.proofs.Chunks.{take_joined}
use Rattle.git_pkt.proofs.reader.PacketReader.gather.Goals as goal

pub returns-then-gathered-ge4-clause-moves : goal.returns-then-gathered-ge4-clause-moves
returns-then-gathered-ge4-clause-moves c =
    let u : List ℕ = take c.loop-used.used c.args.chunk.now in
    let moves = moves_on c.args.self.now _ _ u _ _ c.loop-used.invariant.moves c.gather_body-step.ensures.moves in
    subst (λ (l : List ℕ). Moves c.args.self.now l c.gather_body-step.result.progress c.gather_body-step.new.self)
    (take_joined c.args.chunk.now c.loop-used.used c.gather_body-step.result.used (omega arith)) moves

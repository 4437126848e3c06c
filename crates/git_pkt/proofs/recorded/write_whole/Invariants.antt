-- The bytes taken from `rest` were appended, and each write so far took some or was interrupted.
use Rattle.std.proofs.Common.{◌≡◌, ℕ, List, ◌++◌}
use Rattle.std.specs.Io.KnownBytes.{Appends}
use Rattle.git_pkt.specs.Machine.Calls.{WritesOn}
use Rattle.git_pkt.proofs.recorded.write_whole.Given as goal

abbrev pub invariant-loop : goal.invariant-loop
invariant-loop g l =
    ((done : List ℕ) × (l.initial.rest ≡ done ++ l.rest) × Appends (g.W.Write.contents l.initial.writer) (g.W.Write.contents l.writer) done)
    × WritesOn g.W.WriteCalls.is_write l.counter l.initial.writer l.initial.rest l.rest l.writer

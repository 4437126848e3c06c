-- Interrupted reads took no bytes.
use Rattle.std.specs.Io.KnownBytes.{Keeps}
use Rattle.git_pkt.specs.Machine.Calls.{AreInterrupted}
use Rattle.git_pkt.specs.Machine.Retries.{inner_of}
use Rattle.git_pkt.proofs.retries.RetriesRead.read.Given as goal

abbrev pub invariant-loop : goal.invariant-loop
invariant-loop g l =
    Keeps (g.R.Read.remaining (inner_of l.initial.self)) (g.R.Read.remaining (inner_of l.self))
    × AreInterrupted g.R.ReadCalls.is_read l.counter (inner_of l.initial.self) l.initial.buf l.buf (inner_of l.self)

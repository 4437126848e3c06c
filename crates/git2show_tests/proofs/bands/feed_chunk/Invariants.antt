use Rattle.git_pkt.specs.Machine.BandReader.{MayPass}
use Rattle.git2show_tests.proofs.bands.feed_chunk.Given as goal

abbrev pub invariant-loop : goal.invariant-loop
invariant-loop l = MayPass l.reader

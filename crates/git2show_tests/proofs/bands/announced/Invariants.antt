use Rattle.git_pkt.specs.Machine.BandReader.{MayPass}
use Rattle.git2show_tests.proofs.bands.announced.Given as goal

abbrev pub invariant-loop-chunk : goal.invariant-loop-chunk
invariant-loop-chunk l = MayPass l.reader

-- What was read so far is in the list.
use Rattle.std.proofs.Common.{◌-◌, ◌^◌, vec_len}
use Rattle.std.specs.Io.KnownBytes.{Consumes}
use Rattle.git_pkt.specs.Machine.Recorded.{inner_of}
use Rattle.git_server.proofs.pack_sources.read_whole.Given as goal

abbrev pub invariant-loop-read : goal.invariant-loop-read
invariant-loop-read g l = record {
  read : Consumes (g.R.Read.remaining (inner_of l.fn.reader)) (g.R.Read.remaining (inner_of l.reader)) l.read.items;
}

abbrev pub decreases-loop-read : goal.decreases-loop-read
decreases-loop-read g l = 2 ^ 63 - vec_len l.read

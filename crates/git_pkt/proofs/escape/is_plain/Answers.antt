use Rattle.std.proofs.Common.{arith}
use Rattle.git_pkt.proofs.Escapes.{plain_more, long_more, plain_exactly}
use Rattle.git_pkt.proofs.escape.is_plain.Goals as goal

pub loop-byte-preserved : goal.loop-byte-preserved
loop-byte-preserved c = record {
  plain = plain_more _ _ _ c.loop-byte-test.true c.loop-byte.invariant.plain;
  long = long_more _ _ _ c.loop-byte-test.true c.loop-byte.invariant.long;
}

pub returns : goal.returns
returns c = plain_exactly _ _ _ (omega arith) c.loop-byte.invariant.plain c.loop-byte.invariant.long

use Rattle.std.proofs.Common.{arith}
use Rattle.git_names.proofs.Pairs.{encode_lower-from}
use Rattle.git_names.proofs.digits.pairs_of.Goals as goal

pub returns : goal.returns
returns c =
    let size = c.told-bytes in
    encode_lower-from c.loop-i.digits c.args.bytes.now (omega (arith, c.loop-i.invariant.long))
    (λ k lt. c.loop-i.invariant.high k (omega arith)) (λ k lt. c.loop-i.invariant.low k (omega arith))

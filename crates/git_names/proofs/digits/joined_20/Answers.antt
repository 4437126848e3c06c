use Rattle.std.proofs.Common.{arith}
use Rattle.git_names.proofs.Joined.{joined_at, place_20, place_20-after, place_20-back, place_20-front}
use Rattle.git_names.proofs.digits.joined_20.Goals as goal

pub returns-clause-front : goal.returns-clause-front
returns-clause-front c = λ k lt.
    let at = place_20-front k lt in
    rw at at (joined_at place_20 c.args.values.now k c.told-values c.requires (omega arith) (omega arith))

pub returns-clause-back : goal.returns-clause-back
returns-clause-back c = λ k lt le.
    let at = place_20-back k lt le in
    rw at at (joined_at place_20 c.args.values.now k c.told-values c.requires (omega arith) (omega arith))

pub returns-clause-after : goal.returns-clause-after
returns-clause-after c = λ k lt le.
    let at = place_20-after k le in
    rw at at (joined_at place_20 c.args.values.now k c.told-values c.requires lt (omega arith))

use Rattle.std.proofs.Common.{codes, length, length-append, refl, ap, arith}
use Rattle.git_rows.proofs.runs.bytes_moved.Goals as goal

pub returns-clause-front_written : goal.returns-clause-front_written
returns-clause-front_written c = ((codes "a", codes "b", refl, refl), tt)

pub returns-clause-not_more_than_that : goal.returns-clause-not_more_than_that
returns-clause-not_more_than_that c = λ h.
    let front = h.0.0 in
    let rest = h.0.1 in
    omega (arith, ap length h.0.2, ap length h.0.3, length-append front rest)

use Rattle.std.proofs.Common.{arith}
use Rattle.git_host.proofs.next_name.follows_from.Goals as goal

pub returns-then-not-may_follow : goal.returns-then-not-may_follow
returns-then-not-may_follow c = (
  λ wrong. absurd (cc wrong),
  λ h. c.if-not-may_follow.ensures.1 (h c.loop-at.at c.loop-at.invariant.up (omega arith)),
)

use Rattle.std.proofs.Common.{arith, refl}
use Rattle.git_names.proofs.RefNames.{follows_in_name, slash_follows_name}
use Rattle.git_host.proofs.NamesFrom.{named_from}
use Rattle.git_host.proofs.next_name.is_name_from.Goals as goal

pub returns-then-not-follows_from : goal.returns-then-not-follows_from
returns-then-not-follows_from c = (
  λ wrong. absurd (cc wrong),
  λ h. c.if-not-follows_from.ensures.1 (λ k up lt. follows_in_name c.args.name.now h k lt),
)

pub returns : goal.returns
returns c = (
  λ good. named_from c.args.name.now c.args.from c.requires (omega arith) (omega arith) (c.if-not-follows_from.ensures.0 refl)
      (λ dot. absurd (cc (c.if-ends_with_byte.ensures.1 dot))) (c.may_follow.ensures.0 good),
  λ h. c.may_follow.ensures.1 (slash_follows_name c.args.name.now h),
)

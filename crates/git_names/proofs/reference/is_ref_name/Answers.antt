use Rattle.std.proofs.Common.{arith, refl}
use Rattle.git_names.proofs.RefNames.{follows_in_name, ref_name_from, slash_follows_name}
use Rattle.git_names.proofs.reference.is_ref_name.Goals as goal

pub returns-then-not-follows_well-clause-name : goal.returns-then-not-follows_well-clause-name
returns-then-not-follows_well-clause-name c = (
  λ wrong. absurd (cc wrong),
  λ h. c.if-not-follows_well.ensures.follows.1 (follows_in_name c.args.text.now h),
)

pub returns-clause-name : goal.returns-clause-name
returns-clause-name c = (
  λ good. ref_name_from c.args.text.now (c.if-not-begins_well.ensures.begins.0 refl) (omega arith)
      (c.if-not-follows_well.ensures.follows.0 refl) (λ dot. absurd (cc (c.if-ends_with_str.ensures.1 dot))) (c.may_follow.ensures.follows.0 good),
  λ h. c.may_follow.ensures.follows.1 (slash_follows_name c.args.text.now h),
)

use Rattle.std.proofs.Common.{rules, arith}
use Rattle.git_msg.proofs.PrefixOrder.{last_found, none_counted, none_shown, one_found}
use Rattle.git_msg.proofs.parts.Texts.shows_at.Goals as goal

pub returns-then-split-eq0 : goal.returns-then-split-eq0
returns-then-split-eq0 g c = search (rules, none_shown, none_counted)

pub returns-in-Some : goal.returns-in-Some
returns-in-Some g c = search (rules, last_found)

pub returns-in-None : goal.returns-in-None
returns-in-None g c = absurd (one_found _ c.args.name.now c.args.split (omega (arith, c.if-split-eq0.false)) (search rules) c.requires.split)

use Rattle.std.proofs.Common.{sym, subst}
use Rattle.gitwire.specs.Greetings.{ShowsOne}
use Rattle.gitwire.specs.declared.greetings.GitwireGreeting.{GitwireGreeting}
use Rattle.gitwire.proofs.GreetingParts.{cut_there, no_greeting_without_command, no_greeting_without_nul, no_greeting_without_tail, not_cut, one_greeting}
use Rattle.gitwire.proofs.greetings.read.Goals as goal

pub returns-in_default : goal.returns-in_default
returns-in_default c = no_greeting_without_nul _ (not_cut _ _ _ c.split_at_first.ensures.cut c.in_default.is)

pub returns-in_default-read_command : goal.returns-in_default-read_command
returns-in_default-read_command c =
    no_greeting_without_command _ _ _ (cut_there _ _ _ _ c.split_at_first.ensures.cut c.in-Some.is) c.in_default-read_command.ensures.command

pub returns-in_default-read_tail : goal.returns-in_default-read_tail
returns-in_default-read_tail c =
    no_greeting_without_tail _ _ _ (cut_there _ _ _ _ c.split_at_first.ensures.cut c.in-Some.is) c.in_default-read_tail.ensures

pub returns : goal.returns
returns c =
    subst (λ (shown : GitwireGreeting). ShowsOne c.args.payload.now shown) (sym c.shown.ensures)
    (one_greeting _ _ _ c.in-Some-read_command.command c.in-Some-read_tail.tail (cut_there _ _ _ _ c.split_at_first.ensures.cut c.in-Some.is)
    c.in-Some-read_command.ensures.command c.in-Some-read_tail.ensures)

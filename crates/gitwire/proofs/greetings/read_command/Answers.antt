use Rattle.gitwire.proofs.GreetingParts.{no_command}
use Rattle.gitwire.proofs.greetings.read_command.Goals as goal

pub returns-clause-command : goal.returns-clause-command
returns-clause-command c =
    no_command c.args.text.now c.in_default.ensures.rest c.in_default-after.ensures.rest c.in_default-after-2.ensures.rest

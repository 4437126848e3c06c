use Rattle.gitwire.proofs.GreetingLaws.{one_greeting_alone, read_back}
use Rattle.gitwire.proofs.laws.greetings_are_read_back.Goals as goal

pub returns : goal.returns
returns c = record { once = one_greeting_alone; read = read_back }

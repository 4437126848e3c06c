use Rattle.git_server.proofs.Calls.{after_any_calls}
use Rattle.git_server.proofs.laws.headline.Goals as goal

pub returns : goal.returns
returns g c = λ s calls before after first new no_credit made.
    after_any_calls g.R.Repo.state g.A.Memory.refuses s calls before after first c.args.server.now new no_credit made

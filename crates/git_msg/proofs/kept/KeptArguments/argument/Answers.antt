use Rattle.git_msg.proofs.KeptBytes.{line_fits, place_bound}
use Rattle.git_msg.proofs.kept.KeptArguments.argument.Goals as goal

pub returns-clause-bound : goal.returns-clause-bound
returns-clause-bound g c = place_bound _ c.args.i c.argument.result c.self.invariant c.argument.ensures

pub returns-clause-fits : goal.returns-clause-fits
returns-clause-fits g c = line_fits _ c.args.i c.argument.result c.self.invariant c.argument.ensures

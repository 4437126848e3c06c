use Rattle.git2show_lib.proofs.ScriptValues.{script_values}
use Rattle.git2show_lib.proofs.script_laws.script_requests_have_values.Goals as goal

pub returns : goal.returns
returns c = script_values

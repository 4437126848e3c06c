use Rattle.git2show_lib.proofs.ScriptLaws.{script_or_bad}
use Rattle.git2show_lib.proofs.script_laws.script_or_bad.Goals as goal

pub returns : goal.returns
returns c = script_or_bad

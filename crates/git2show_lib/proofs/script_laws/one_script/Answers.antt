use Rattle.git2show_lib.proofs.ScriptLaws.{one_script}
use Rattle.git2show_lib.proofs.script_laws.one_script.Goals as goal

pub returns : goal.returns
returns c = one_script

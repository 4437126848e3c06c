use Rattle.git2show_lib.proofs.ScriptLaws.{one_bad_line}
use Rattle.git2show_lib.proofs.script_laws.one_bad_script_line.Goals as goal

pub returns : goal.returns
returns c = one_bad_line

use Rattle.git2show_lib.proofs.script_lines.Script.begin.Goals as goal

pub returns-in-Err : goal.returns-in-Err
returns-in-Err g c = (c.in-Some.command, c.in-Some.ensures, c.in-Err.ensures.memory)

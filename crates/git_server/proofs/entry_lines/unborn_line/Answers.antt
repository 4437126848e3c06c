use Rattle.git_server.proofs.UnbornHead.{unborn_is_writable}
use Rattle.git_server.proofs.entry_lines.unborn_line.Goals as goal

pub returns-clause-writable : goal.returns-clause-writable
returns-clause-writable c = unborn_is_writable c.args.target.now c.requires

use Rattle.std.proofs.Common.{append-nil, codes, []}
use Rattle.git_server.proofs.advertisement.ls_refs_line.Goals as goal

pub returns : goal.returns
returns c =
    let names = c.add.ensures.names (codes "ls-refs") [] c.of-line.ensures.names in
    rw (c.end.ensures, names.text) (simp append-nil)

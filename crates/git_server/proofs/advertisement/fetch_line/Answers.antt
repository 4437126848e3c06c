use Rattle.std.proofs.Common.{append_assoc, append-nil, codes, []}
use Rattle.git_server.proofs.advertisement.fetch_line.Goals as goal

pub returns : goal.returns
returns c =
    let first = c.add-2.ensures.names (codes "fetch") _ (c.add.ensures.names (codes "fetch") [] c.of-line.ensures.names) in
    let names = c.add-4.ensures.names (codes "fetch") _ (c.add-3.ensures.names (codes "fetch") _ first) in
    rw (c.end.ensures, names.text) (simp (append_assoc, append-nil))

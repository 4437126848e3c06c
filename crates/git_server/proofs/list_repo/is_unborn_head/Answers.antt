use Rattle.std.proofs.Common.{rules}
use Rattle.git_server.proofs.UnbornHead.{head_searched}
use Rattle.git_server.proofs.list_repo.is_unborn_head.Goals as goal

pub returns : goal.returns
returns c =
    rw c.in-Some.is (head_searched c.args.refs.now c.in-Some.target.items c.find_name.result c.is_none.result (search rules)
    c.find_name.ensures c.is_none.ensures)

use Rattle.git_host.proofs.NamesFrom.{holds_so}
use Rattle.git_host.proofs.next_name.judge_after.Goals as goal

pub is_name_from-requires : goal.is_name_from-requires
is_name_from-requires c = holds_so c.args.last.now c.args.name.now c.common_length-same.result c.requires c.common_length-same.ensures

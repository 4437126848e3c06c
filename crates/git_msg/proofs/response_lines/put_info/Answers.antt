use Rattle.std.proofs.Common.{rules}
use Rattle.git_msg.proofs.ResponseLines.{info_reads_back}
use Rattle.git_msg.proofs.WrittenNames.{named_in}
use Rattle.git_msg.proofs.response_lines.put_info.Goals as goal

pub returns-clause-reads_back : goal.returns-clause-reads_back
returns-clause-reads_back c = search (rules, info_reads_back, named_in)

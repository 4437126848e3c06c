use Rattle.git_msg.specs.Agents.{named_if}
use Rattle.git_msg.proofs.RoundTrip.{reads_back}
use Rattle.git_msg.proofs.laws.written_request_reads_back.Goals as goal

pub returns : goal.returns
returns c = λ offer limit caps agent. reads_back offer limit (named_if caps.agent agent) caps.object_format

-- What was pulled was written, and nothing has failed since the call began.
use Rattle.std.proofs.Common.{◌≡◌, false, []}
use Rattle.git_pkt.specs.Machine.Recorded.{inner_of, has_failed}
use Rattle.git_pkt.specs.Streams.{flow}
use Rattle.git_server.specs.Machine.ServerCalls.{IsAfterPull, HasNoPackUnsent, most_left}
use Rattle.git_server.specs.Machine.Server.{outcome_of}
use Rattle.git_server.specs.Machine.Unsent.{WritesOn, WritesUnread}
use Rattle.git_server.proofs.pending.drain.Given as goal

abbrev pub invariant-loop-bytes : goal.invariant-loop-bytes
invariant-loop-bytes g l = record {
  sound : has_failed l.writer ≡ has_failed l.fn.writer;
  outcome : IsAfterPull (outcome_of l.fn.server) (outcome_of l.server);
  writes : WritesOn false g.R.Repo.state l.fn.server l.server []
      (flow (g.W.Write.contents (inner_of l.fn.writer)) (g.W.Write.contents (inner_of l.writer)));
  unread : HasNoPackUnsent g.R.Repo.state l.fn.server → WritesUnread false g.R.Repo.state l.fn.server l.server
      (flow (g.W.Write.contents (inner_of l.fn.writer)) (g.W.Write.contents (inner_of l.writer)));
}

abbrev pub decreases-loop-bytes : goal.decreases-loop-bytes
decreases-loop-bytes g l = most_left g.R.Repo.state l.server

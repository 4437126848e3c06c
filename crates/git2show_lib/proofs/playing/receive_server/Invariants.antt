-- No writer has failed, and what the server gave was received, up to where the client can ask.
use Rattle.std.proofs.Common.{◌≡◌, false}
use Rattle.git_pkt.specs.Machine.Recorded.{inner_of, has_failed}
use Rattle.git_pkt.specs.Streams.{flow}
use Rattle.git_server.specs.Machine.ServerCalls.{most_left}
use Rattle.git2show_lib.proofs.PlayMeeting.{Receiving}
use Rattle.git2show_lib.proofs.playing.receive_server.Given as goal

abbrev pub invariant-loop-server : goal.invariant-loop-server
invariant-loop-server g l = record {
  sound_out : has_failed l.out ≡ false;
  sound_pack : g.P.Output.failed l.pack ≡ false;
  arrives : Receiving g.R.Repo.state l.fn.client l.client l.fn.counts l.counts l.fn.server l.server
      (flow (g.O.Write.contents (inner_of l.fn.out)) (g.O.Write.contents (inner_of l.out)))
      (flow (g.P.Output.contents l.fn.pack) (g.P.Output.contents l.pack));
}

-- each packet that is sent leaves fewer
abbrev pub decreases-loop-server : goal.decreases-loop-server
decreases-loop-server g l = most_left g.R.Repo.state l.server

use Rattle.std.proofs.Common.{◌≡◌, ◌<◌, ◌++◌, length, false}
use Rattle.std.specs.Vec.Iter.{into_iter_items, into_iter_len}
use Rattle.git_msg.specs.declared.limits.TheConstants.Limits.{DEFAULT_ARGS}
use Rattle.git_pkt.specs.Machine.Recorded.{inner_of, has_failed}
use Rattle.git_pkt.specs.Streams.{flow}
use Rattle.git_client.specs.Parts.{terms_of}
use Rattle.git_client.specs.declared.events.Ending.TheVariants.{FlushOnly}
use Rattle.git2show_lib.proofs.PlayOne.{Alone}
use Rattle.git2show_lib.proofs.PlayRuns.{Plays}
use Rattle.git2show_lib.proofs.playing.play_one.Given as goal

-- The requests that came off the vector were asked, and the response to each was received whole: the server is at rest.
abbrev pub invariant-loop-request : goal.invariant-loop-request
invariant-loop-request g l = record {
  plays : Plays g.R.Repo.state (terms_of (g.R.Repo.state l.fn.repo).answers.format FlushOnly) DEFAULT_ARGS (g.R.Repo.state l.fn.repo)
      (Alone g.R.Repo.state (terms_of (g.R.Repo.state l.fn.repo).answers.format FlushOnly) DEFAULT_ARGS (g.R.Repo.state l.fn.repo)) l.yielded l.client l.server
      (flow (g.O.Write.contents (inner_of l.fn.out)) (g.O.Write.contents (inner_of l.out)))
      (flow (g.P.Output.contents l.fn.pack) (g.P.Output.contents l.pack));
  left_to_ask : l.fn.requests.items ≡ l.yielded ++ into_iter_items l.request-iterator;
  counted : into_iter_len l.request-iterator ≡ length (into_iter_items l.request-iterator);
  cut : 0 < l.cut;
  sound_out : has_failed l.out ≡ false;
  sound_pack : g.P.Output.failed l.pack ≡ false;
}

-- No read has failed, and once the input has ended, so has the session.
use Rattle.std.proofs.Common.{◌≡◌, true, false, IsSome}
use Rattle.git_pkt.specs.Machine.Recorded.{has_ended, has_failed}
use Rattle.git_loop.specs.OneStreams.{reader_of}
use Rattle.git_server.specs.Machine.Server.{outcome_of}
use Rattle.git2show.proofs.answer_all.Given as goal

abbrev pub invariant-loop : goal.invariant-loop
invariant-loop g l = record {
  sound : has_failed (reader_of l.requests) ≡ false;
  closed : has_ended (reader_of l.requests) ≡ true → IsSome (outcome_of l.server);
}

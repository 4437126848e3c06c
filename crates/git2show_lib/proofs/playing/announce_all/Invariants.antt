-- What was pulled was sent.
use Rattle.std.proofs.Common.{length}
use Rattle.git_client.specs.Machine.Client.{left_to_send}
use Rattle.git2show_lib.proofs.PlayAsking.{AnnouncesSome}
use Rattle.git2show_lib.proofs.playing.announce_all.Given as goal

abbrev pub invariant-loop-packet : goal.invariant-loop-packet
invariant-loop-packet g l = record { announces : AnnouncesSome g.R.Repo.state l.fn.client l.client l.fn.server l.server }

-- each packet that is sent was pending, and is pending no more
abbrev pub decreases-loop-packet : goal.decreases-loop-packet
decreases-loop-packet g l = length (left_to_send l.client)

-- What is done of the packet was sent.
use Rattle.std.proofs.Common.{length, take, drop, ◌-◌, ◌≤◌, ◌++◌, List, ℕ}
use Rattle.git_server.specs.Machine.Server.{wants_input}
use Rattle.git_server.specs.Sessions.{Setting}
use Rattle.git2show_lib.specs.Machine.PlaySteps.{Stands}
use Rattle.git2show_lib.proofs.PlayAnnouncing.{Announcing, turns_left}
use Rattle.git2show_lib.proofs.playing.announce_packet.Given as goal

abbrev pub invariant-loop-used : goal.invariant-loop-used
invariant-loop-used g l = record {
  within : l.used ≤ length l.packet;
  announces : (s : Setting) (content given : List ℕ) → Stands g.R.Repo.state s content given l.fn.server
      → Announcing g.R.Repo.state s (content ++ take l.used l.packet) given (drop l.used l.packet) l.server;
}

-- each chunk takes some bytes, or the server wants no more
abbrev pub decreases-loop-used : goal.decreases-loop-used
decreases-loop-used g l = turns_left (wants_input l.server) (length l.packet - l.used)

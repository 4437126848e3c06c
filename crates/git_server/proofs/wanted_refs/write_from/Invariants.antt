use Rattle.std.proofs.Common.{◌≡◌, ◌-◌, length}
use Rattle.git_server.proofs.WantedLines.{lines_from}
use Rattle.git_server.proofs.wanted_refs.write_from.Given as goal
use Rattle.git_msg.specs.Asked.{want_refs_in}

-- none of the references so far is there, and nothing was written
abbrev pub invariant-loop-name : goal.invariant-loop-name
invariant-loop-name g l = record {
  none : lines_from (g.R.Repo.state l.repo).answers (want_refs_in l.request.asked) l.at
      ≡ lines_from (g.R.Repo.state l.repo).answers (want_refs_in l.request.asked) l.fn.from;
  unwritten : l.reader ≡ l.fn.reader;
}

abbrev pub decreases-loop-name : goal.decreases-loop-name
decreases-loop-name g l = length (want_refs_in l.request.asked) - l.at

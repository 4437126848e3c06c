use Rattle.std.proofs.Common.{◌≡◌, drop}
use Rattle.git_server.specs.FetchAnswers.{common}
use Rattle.git_server.proofs.acknowledgments.next_common.Given as goal

-- the repository has none of the objects so far
abbrev pub invariant-loop-at : goal.invariant-loop-at
invariant-loop-at g l =
    common (g.R.Repo.state l.repo).answers.has (drop l.at l.haves) ≡ common (g.R.Repo.state l.repo).answers.has (drop l.fn.from l.haves)

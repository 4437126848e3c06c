use Rattle.std.proofs.Common.{refl, inl, inr}
use Rattle.git_server.specs.Machine.Moved.{waits_open}
use Rattle.git_server.proofs.OneRequestTaken.{takes_used}
use Rattle.git_server.proofs.one_request.OneRequestMachine.feed.Goals as goal

pub returns-clause-some : goal.returns-clause-some
returns-clause-some g c = λ some.
    elim (c.feed.ensures.moves c.requires.1 some) [
      | inl uses ↦ inl uses
      | inr over ↦ inr (λ k. over)
    ]

pub returns-clause-reaches : goal.returns-clause-reaches
returns-clause-reaches g c =
    (takes_used g.R.Repo.state _ _ c.args.from _ c.requires.0 c.feed.ensures.goes c.feed.ensures.unread, refl)

pub returns-clause-done : goal.returns-clause-done
returns-clause-done g c = λ k done. absurd (waits_open c.args.self.now.server.now c.requires.1 done)

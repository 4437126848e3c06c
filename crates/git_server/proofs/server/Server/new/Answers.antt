use Rattle.std.proofs.Common.{rules, refl, ◌∙◌}
use Rattle.git_server.specs.Machine.LatePacks.{state_with}
use Rattle.git_server.proofs.Openings.{opens}
use Rattle.git_server.proofs.server.Server.new.Goals as goal

pub returns-then-advertise-clause-running : goal.returns-then-advertise-clause-running
returns-then-advertise-clause-running g c =
    opens g.R.Repo.state _ c.args.repo _ _ c.begin.ensures.fresh refl refl refl tt refl refl
    (λ unsent has_unsent. has_unsent ∙ rw c.if-advertise.true (search rules)) (λ unsent breaks. breaks) refl

pub returns-then-advertise-clause-unread : goal.returns-then-advertise-clause-unread
returns-then-advertise-clause-unread g c packs =
    opens (state_with packs g.R.Repo.state) _ c.args.repo _ _ c.begin.ensures.fresh refl refl refl tt refl refl
    (λ unsent has_unsent. has_unsent ∙ rw c.if-advertise.true (search rules)) (λ unsent breaks. breaks) refl

pub returns-clause-unread : goal.returns-clause-unread
returns-clause-unread g c packs =
    opens (state_with packs g.R.Repo.state) _ c.args.repo _ _ c.begin-2.ensures.fresh refl refl refl tt refl refl
    (λ unsent has_unsent. has_unsent ∙ rw c.if-advertise.false (search rules)) (λ unsent breaks. breaks) refl

pub returns-clause-running : goal.returns-clause-running
returns-clause-running g c =
    opens g.R.Repo.state _ c.args.repo _ _ c.begin-2.ensures.fresh refl refl refl tt refl refl
    (λ unsent has_unsent. has_unsent ∙ rw c.if-advertise.false (search rules)) (λ unsent breaks. breaks) refl

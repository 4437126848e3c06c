use Rattle.std.proofs.Common.{◌≡◌, ◌↔◌, IsTrue, Bool, false, None, [], refl, subst}
use Rattle.git_server.specs.Machine.Phases.{reads_in}
use Rattle.git_server.specs.Machine.Server.{outcome_of}
use Rattle.git_server.specs.Machine.ServerCalls.{AreUnsentNow}
use Rattle.git_server.specs.declared.server.Phase.{Phase}
use Rattle.git_server.specs.declared.server.Phase.TheVariants.{Advertising, Between, Within, Answering, Refusing, Ended}
use Rattle.git_server.proofs.OneSession.{waits_where_none_unsent}
use Rattle.git_server.proofs.server.Server.wants_input.Goals as goal

reads_no_more : {A : Type 0} (phase : Phase A) → (phase ≡ Between → ⊥) → (phase ≡ Within → ⊥) → reads_in phase ≡ false
reads_no_more Between not_between not_within = absurd (not_between refl)
reads_no_more Within not_between not_within = absurd (not_within refl)
reads_no_more (Advertising line) not_between not_within = refl
reads_no_more (Answering answer offset) not_between not_within = refl
reads_no_more (Refusing fault) not_between not_within = refl
reads_no_more (Ended outcome) not_between not_within = refl

pub returns-in_default-clause-waits : goal.returns-in_default-clause-waits
returns-in_default-clause-waits g c =
    let server = c.args.self.now in
    subst (λ (b : Bool). IsTrue b ↔ ((outcome_of server ≡ None) × AreUnsentNow g.R.Repo.state server []))
    (reads_no_more server.phase c.in_default.not-Between c.in_default.not-Within)
    (waits_where_none_unsent server.offer (g.R.Repo.state server.repo).answers server.phase)

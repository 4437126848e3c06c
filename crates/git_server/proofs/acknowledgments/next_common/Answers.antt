use Rattle.std.proofs.Common.{sym, ◌∙◌}
use Rattle.git_server.proofs.Dropped.{first_kept}
use Rattle.git_server.proofs.acknowledgments.next_common.Goals as goal

pub returns-then-has : goal.returns-then-has
returns-then-has g c =
    let has = (g.R.Repo.state c.args.repo.now).answers.has in
    let x = c.index-haves-at.result in
    record {
      within = c.loop-at-test.true;
      first = λ d. sym c.loop-at.invariant
          ∙ first_kept c.args.haves.now c.loop-at.at has x d c.loop-at-test.true c.index-haves-at.is (sym c.has.ensures ∙ c.if-has.true);
    }

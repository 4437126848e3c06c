use Rattle.std.proofs.Common.{◌≢◌, [], sym, ap, ◌∙◌}
use Rattle.git2show_lib.specs.OtherLines.{Noted}
use Rattle.git2show_lib.specs.Machine.Checker.{lent_by}
use Rattle.git2show_lib.proofs.CheckerCalls.{IsTaken, checks_taken, same_check, sieves_on, some_wait, taken_gathered, taken_others}
use Rattle.git2show_lib.proofs.Scripting.{no_bytes, some_bytes}
use Rattle.git2show_lib.proofs.checker.Checker.lines_taken.Given as given
use Rattle.git2show_lib.proofs.checker.Checker.lines_taken.Goals as goal
use Rattle.git2show_lib.proofs.checker.Checker.lines_taken.Goals.{After-lines, else-is_empty, then-is_empty}

-- what was lent was taken
taken : (g : given.Over) (c : After-lines g) → IsTaken c.args.self.now c.if-is_empty.self
taken g c =
    elim c.if-is_empty.branch [
      | then-is_empty w ↦ taken_others c.args.self.now c.if-is_empty.self w.forget.new.self _ _ w.self-is
          (sym c.as_slice.ensures ∙ no_bytes c.as_slice.result.now (sym c.is_empty.ensures ∙ w.if-is_empty.true))
          (ap (λ (n : Noted). n.lines) w.forget.ensures)
      | else-is_empty w ↦ taken_gathered c.args.self.now c.if-is_empty.self w.clear.new.self _ _ w.self-is
          (λ none. some_bytes c.as_slice.result.now (sym c.is_empty.ensures ∙ w.if-is_empty.false) (c.as_slice.ensures ∙ none)) w.clear.ensures
    ]

pub returns-then-not-is_empty-clause-carries : goal.returns-then-not-is_empty-clause-carries
returns-then-not-is_empty-clause-carries g c t limit requests responses lent k =
    let some : lent_by c.if-is_empty.self ≢ [] =
    λ none. some_bytes c.lines.result.now (sym c.is_empty-2.ensures ∙ c.if-not-is_empty.true) (c.lines.ensures ∙ none) in
    checks_taken (taken g (goal.at.returns-then-not-is_empty-clause-carries g c).After-lines) (λ start is none. some_wait c.if-is_empty.self some none) k

pub returns-in-Sieved-clause-carries : goal.returns-in-Sieved-clause-carries
returns-in-Sieved-clause-carries g c t limit requests responses lent k =
    let done = taken g (goal.at.returns-in-Sieved-clause-carries g c).After-lines in
    c.pass_on.ensures.passes t limit requests responses _ (same_check done k) (sieves_on c.in-Sieved.start done c.in-Sieved.is k)

pub returns-in_default-clause-carries : goal.returns-in_default-clause-carries
returns-in_default-clause-carries g c t limit requests responses lent k =
    checks_taken (taken g (goal.at.returns-in_default-clause-carries g c).After-lines) (λ start is none. c.in_default.not-Sieved start is) k

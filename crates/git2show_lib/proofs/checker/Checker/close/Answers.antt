use Rattle.std.proofs.Common.{◌≡◌, true, sym, subst, ◌∙◌, ap}
use Rattle.git2show_lib.specs.Machine.Checker.{is_done_with}
use Rattle.git2show_lib.specs.declared.checker.Needed.TheVariants.{Input}
use Rattle.git2show_lib.specs.declared.checker.Stream.{Stream}
use Rattle.git2show_lib.proofs.CheckerCalls.{needed_is, needs, none_done, over_in}
use Rattle.git2show_lib.proofs.checker.Checker.close.Goals as goal

pub returns-in-Requests-clause-stays_done : goal.returns-in-Requests-clause-stays_done
returns-in-Requests-clause-stays_done g c = λ stream done.
    let needed = needs c.args.self.now c.args.from (needed_is _ _ (sym c.needs.ensures ∙ c.if-not-needs.false)) in
    absurd (none_done c.args.self.now.turn stream (needed ∙ ap Input c.in-Requests.is) done)

pub returns-in-Requests-clause-done : goal.returns-in-Requests-clause-done
returns-in-Requests-clause-done g c = λ needed.
    subst (λ (s : Stream). is_done_with s c.close_requests.new.self ≡ true) (sym c.in-Requests.is) c.close_requests.ensures.done

pub returns-in-Responses-clause-stays_done : goal.returns-in-Responses-clause-stays_done
returns-in-Responses-clause-stays_done g c = λ stream done. over_in c.close_responses.new.self.turn stream c.close_responses.ensures.over

pub returns-in-Responses-clause-done : goal.returns-in-Responses-clause-done
returns-in-Responses-clause-done g c = λ needed. over_in c.close_responses.new.self.turn c.args.from c.close_responses.ensures.over

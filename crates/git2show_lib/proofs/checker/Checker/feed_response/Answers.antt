use Rattle.std.proofs.Common.{refl, sym, false, inl, ◌∙◌}
use Rattle.git2show_lib.specs.declared.checker.Turn.TheVariants.{Request, Response}
use Rattle.git2show_lib.proofs.CheckerStands.{check_of, expects_more, over_as, stands_as, still_open, stood}
use Rattle.git2show_lib.proofs.CheckerEnds.{receiving_refused, shown_in}
use Rattle.git2show_lib.proofs.CheckerSteps.{gathered_on, none_fit, receives_further, receives_whole}
use Rattle.git2show_lib.proofs.checker.Checker.feed_response.Goals as goal

pub returns-in-Some-clause-carries : goal.returns-in-Some-clause-carries
returns-in-Some-clause-carries g c t limit requests responses lent k =
    let was = stood c.args.self.now Response c.requires.turn k in
    let step = rw c.in-Some.is at c.gather_chunk-gathered.ensures.gathers in
    let on = gathered_on lent _ _ _ c.requires.none_waits step.arrives in
    over_as _ _ false c.refused-self.ensures (still_open c.args.self.now Response c.requires.turn (λ none. absurd (cc))) (check_of k)
    (receiving_refused was c.in-Some.fault step.announced _ _ on step.shown.not_the_end (shown_in _ _ _ _ c.shown_by.ensures.shown step.shown.one_more))

pub shown_by-requires : goal.shown_by-requires
shown_by-requires g c =
    let step = rw c.in-Some.is at c.gather_chunk-gathered.ensures.gathers in
    record { within = c.gather_chunk-gathered.ensures.used; one_more = step.shown.one_more }

pub returns-then-can_ask-clause-carries : goal.returns-then-can_ask-clause-carries
returns-then-can_ask-clause-carries g c t limit requests responses lent k =
    let was = stood c.args.self.now Response c.requires.turn k in
    let step = rw c.in_default.is at c.gather_chunk-gathered.ensures.gathers in
    let on = gathered_on lent _ _ _ c.requires.none_waits step.arrives in
    let whole = receives_whole was on (sym c.can_ask.ensures.value ∙ c.if-can_ask.true) in
    stands_as _ Request refl (check_of k) (whole, λ some. was.asked.read.alone)

pub returns-clause-carries : goal.returns-clause-carries
returns-clause-carries g c t limit requests responses lent k =
    let was = stood c.args.self.now Response c.requires.turn k in
    let step = rw c.in_default.is at c.gather_chunk-gathered.ensures.gathers in
    let on = gathered_on lent _ _ _ c.requires.none_waits step.arrives in
    let further = receives_further was on (expects_more _ _ step.whole (sym c.can_ask.ensures.value ∙ c.if-can_ask.false)) in
    stands_as _ Response c.requires.turn (check_of k) further

pub returns-then-can_ask-clause-moves : goal.returns-then-can_ask-clause-moves
returns-then-can_ask-clause-moves g c some =
    let step = rw c.in_default.is at c.gather_chunk-gathered.ensures.gathers in
    inl (step.moves some (none_fit _ _ c.requires.none_waits))

pub returns-clause-moves : goal.returns-clause-moves
returns-clause-moves g c some =
    let step = rw c.in_default.is at c.gather_chunk-gathered.ensures.gathers in
    inl (step.moves some (none_fit _ _ c.requires.none_waits))

use Rattle.std.proofs.Common.{refl, sym, false, ap, inl, ◌∙◌}
use Rattle.git_msg.specs.Advertisement.{noted_offer}
use Rattle.git_msg.specs.declared.offers.Caps.{Caps}
use Rattle.git_client.specs.Machine.Client.{caps_of}
use Rattle.git_client.specs.Parts.{Terms}
use Rattle.git2show_lib.specs.Others.{Advertised}
use Rattle.git2show_lib.specs.declared.checker.Turn.TheVariants.{Opening}
use Rattle.git2show_lib.proofs.CheckerStands.{check_of, expects_more, over_before, reads_as, stands_as, still_open, stood}
use Rattle.git2show_lib.proofs.CheckRuns.{lines_noted, why_lost}
use Rattle.git2show_lib.proofs.CheckerResponses.{asks_alone, opened_as, opening_refused, opening_unnoted, opens_further, opens_whole}
use Rattle.git2show_lib.proofs.CheckerEnds.{shown_in}
use Rattle.git2show_lib.proofs.CheckerSteps.{gathered_on, none_fit}
use Rattle.git2show_lib.proofs.checker.Checker.feed_opening.Goals as goal

pub returns-in-Some-clause-carries : goal.returns-in-Some-clause-carries
returns-in-Some-clause-carries g c t limit requests responses lent k =
    let (none, zero, unopened, was) = stood c.args.self.now Opening c.requires.turn k in
    let step = rw c.in-Some.is at c.gather_chunk-gathered.ensures.gathers in
    let on = gathered_on lent _ _ _ c.requires.none_waits step.arrives in
    over_before _ _ false c.refused-self.ensures (still_open c.args.self.now Opening c.requires.turn (λ none. absurd (cc))) (check_of k) none unopened
    (opening_refused was on c.in-Some.fault step.announced step.shown.not_the_end
    (shown_in _ _ _ _ c.shown_by.ensures.shown step.shown.one_more) _)

pub shown_by-requires : goal.shown_by-requires
shown_by-requires g c =
    let step = rw c.in-Some.is at c.gather_chunk-gathered.ensures.gathers in
    record { within = c.gather_chunk-gathered.ensures.used; one_more = step.shown.one_more }

pub returns-then-not-can_ask-clause-carries : goal.returns-then-not-can_ask-clause-carries
returns-then-not-can_ask-clause-carries g c t limit requests responses lent k =
    let (none, zero, unopened, was) = stood c.args.self.now Opening c.requires.turn k in
    let step = rw c.in_default.is at c.gather_chunk-gathered.ensures.gathers in
    let on = gathered_on lent _ _ _ c.requires.none_waits step.arrives in
    let waits = expects_more _ _ step.whole (sym c.can_ask.ensures.value ∙ c.if-not-can_ask.true) in
    stands_as _ Opening c.requires.turn (check_of k)
    (none, zero, unopened, opens_further was on waits (c.note.ensures.notes responses.bytes was.noted) c.note.ensures.gathers)

pub returns-in-Ok-clause-carries : goal.returns-in-Ok-clause-carries
returns-in-Ok-clause-carries g c t limit requests responses lent k =
    let (none, zero, unopened, was) = stood c.args.self.now Opening c.requires.turn k in
    let step = rw c.in_default.is at c.gather_chunk-gathered.ensures.gathers in
    let on = gathered_on lent _ _ _ c.requires.none_waits step.arrives in
    let (sound, same) = c.in-Ok.ensures.text in
    let reading = opens_whole was on (sym c.can_ask.ensures.value ∙ c.if-not-can_ask.false) c.new.ensures.reads c.new.ensures.ready
    (ap (λ (by : Advertised). by.offer) c.new.ensures.advertised ∙ c.offer-offer.ensures
    ∙ ap (λ (caps : Caps). noted_offer caps c.args.self.now.format) c.caps.ensures.value
    ∙ ap (λ (terms : Terms). noted_offer (caps_of c.gather_chunk-gathered.new.client) terms.format) (sym k.terms))
    (lines_noted (c.note.ensures.notes responses.bytes was.noted) (sound, ap (λ (by : Advertised). by.text) c.new.ensures.advertised ∙ same))
    (c.new.ensures.limit ∙ sym k.limit_is) in
    reads_as _ refl (check_of k) (opened_as none zero reading)
    (asks_alone c.new.ensures.ready c.new.ensures.between c.new.ensures.shut)

pub returns-in-Err-clause-carries : goal.returns-in-Err-clause-carries
returns-in-Err-clause-carries g c t limit requests responses lent k =
    let (none, zero, unopened, was) = stood c.args.self.now Opening c.requires.turn k in
    let step = rw c.in_default.is at c.gather_chunk-gathered.ensures.gathers in
    let on = gathered_on lent _ _ _ c.requires.none_waits step.arrives in
    let noted = c.note.ensures.notes responses.bytes was.noted in
    let over = opening_unnoted was on (record { kind = c.in-Err.kind; offset = c.position-offset.result })
    (sym c.can_ask.ensures.value ∙ c.if-not-can_ask.false) (why_lost noted c.in-Err.ensures.why) c.position-offset.ensures.value _ in
    over_before _ _ false c.refused-self-in-Err.ensures (still_open c.args.self.now Opening c.requires.turn (λ none. absurd (cc))) (check_of k)
    none unopened over

pub returns-then-not-can_ask-clause-moves : goal.returns-then-not-can_ask-clause-moves
returns-then-not-can_ask-clause-moves g c some =
    let step = rw c.in_default.is at c.gather_chunk-gathered.ensures.gathers in
    inl (step.moves some (none_fit _ _ c.requires.none_waits))

pub returns-in-Ok-clause-moves : goal.returns-in-Ok-clause-moves
returns-in-Ok-clause-moves g c some =
    let step = rw c.in_default.is at c.gather_chunk-gathered.ensures.gathers in
    inl (step.moves some (none_fit _ _ c.requires.none_waits))

use Rattle.std.proofs.Common.{false}
use Rattle.git_msg.proofs.StreamSteps.{feeds_with}
use Rattle.git2show_lib.specs.declared.checker.Turn.TheVariants.{Sieved}
use Rattle.git2show_lib.proofs.CheckerStands.{check_of, over_as, sound_in, stands_as, still_open, stood}
use Rattle.git2show_lib.proofs.CheckerEnds.{shown_in}
use Rattle.git2show_lib.proofs.CheckerSieves.{fed_broken, fed_bytes, fed_packet, fed_passed, fed_refused}
use Rattle.git2show_lib.proofs.checker.Checker.feed_sieved.Goals as goal

pub returns-in-More-clause-carries : goal.returns-in-More-clause-carries
returns-in-More-clause-carries g c t limit requests responses lent k =
    let (was, quiet) = stood c.args.self.now (Sieved c.args.start) c.requires.turn k in
    let new = c.feed-fed.follows.lender-at-none in
    let fed = c.feed-fed.follows.holds-at-none in
    let feeds = feeds_with c.args.self.now.packets new _ c.feed-fed.result _ c.in-More.is fed in
    stands_as _ (Sieved c.args.start) c.requires.turn (check_of k) (
      fed_bytes was (quiet c.requires.none_waits) feeds.reads feeds.announces.1 fed.gathers,
      quiet,
    )

pub returns-in-Failed-clause-carries : goal.returns-in-Failed-clause-carries
returns-in-Failed-clause-carries g c t limit requests responses lent k =
    let (was, quiet) = stood c.args.self.now (Sieved c.args.start) c.requires.turn k in
    let new = c.feed-fed.follows.lender-at-none in
    let fed = c.feed-fed.follows.holds-at-none in
    let feeds = feeds_with c.args.self.now.packets new _ c.feed-fed.result _ c.in-Failed.is fed in
    let shown = fed.news c.in-Failed.fault was.sound c.in-Failed.is in
    over_as _ _ false c.refused-self.ensures
    (still_open c.args.self.now (Sieved c.args.start) c.requires.turn (λ none. absurd (cc))) (check_of k)
    (rw c.saturating_add.ensures (fed_broken was (quiet c.requires.none_waits) feeds.reads c.in-Failed.fault feeds.announces shown.not_the_end
    (shown_in _ _ _ _ c.shown_by.ensures.shown shown.one_more) _ _))

pub shown_by-requires : goal.shown_by-requires
shown_by-requires g c =
    let sound = sound_in c.args.self.now (Sieved c.args.start) c.requires.turn in
    let fed = c.feed-fed.follows.holds-at-none in
    record { within = c.feed-fed.ensures.used; one_more = (fed.news c.in-Failed.fault sound.2.0 c.in-Failed.is).one_more }

pub returns-in-Ok-None-clause-carries : goal.returns-in-Ok-None-clause-carries
returns-in-Ok-None-clause-carries g c t limit requests responses lent k =
    let (was, quiet) = stood c.args.self.now (Sieved c.args.start) c.requires.turn k in
    let new = c.feed-fed.follows.lender-at-none in
    let fed = c.feed-fed.follows.holds-at-none in
    let feeds = feeds_with c.args.self.now.packets new _ c.feed-fed.result _ c.in-Packet.is fed in
    let step = c.in-Ok-None.ensures in
    stands_as _ (Sieved c.args.start) c.requires.turn (check_of k) (
      fed_packet was (quiet c.requires.none_waits) feeds.reads feeds.announces.1 feeds.announces.2 fed.gathers _ step.form step.spot
          (rw c.in-Ok-None.field-0-is at step.passed),
      quiet,
    )

pub returns-in-Ok-Some-clause-carries : goal.returns-in-Ok-Some-clause-carries
returns-in-Ok-Some-clause-carries g c t limit requests responses lent k =
    let (was, quiet) = stood c.args.self.now (Sieved c.args.start) c.requires.turn k in
    let new = c.feed-fed.follows.lender-at-none in
    let fed = c.feed-fed.follows.holds-at-none in
    let feeds = feeds_with c.args.self.now.packets new _ c.feed-fed.result _ c.in-Packet.is fed in
    let step = c.in-Ok-Some.ensures in
    let on = fed_passed was (quiet c.requires.none_waits) feeds.reads feeds.announces.1 feeds.announces.2 fed.gathers _ step.form step.spot _
    (rw c.in-Ok-Some.field-0-is at step.passed) (rw c.in-Ok-Some.field-0-is at step.fits) in
    c.pass_on.ensures.passes t limit _ _ lent (check_of k) (rw c.put.ensures on)

pub returns-in-Err-clause-carries : goal.returns-in-Err-clause-carries
returns-in-Err-clause-carries g c t limit requests responses lent k =
    let (was, quiet) = stood c.args.self.now (Sieved c.args.start) c.requires.turn k in
    let new = c.feed-fed.follows.lender-at-none in
    let fed = c.feed-fed.follows.holds-at-none in
    let feeds = feeds_with c.args.self.now.packets new _ c.feed-fed.result _ c.in-Packet.is fed in
    over_as _ _ false c.refused-self-in-Err.ensures
    (still_open c.args.self.now (Sieved c.args.start) c.requires.turn (λ none. absurd (cc))) (check_of k)
    (rw c.saturating_add-in-Err.ensures (fed_refused was (quiet c.requires.none_waits) feeds.reads feeds.announces.1 feeds.announces.2 c.in-Err.kind
    c.in-Err.ensures.passed _ _))

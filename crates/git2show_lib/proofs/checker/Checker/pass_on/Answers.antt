use Rattle.std.proofs.Common.{rules, arith, ◌≡◌, ◌+◌, ◌-◌, ◌<◌, [], length, false, refl, sym, ap, ◌∙◌}
use Rattle.std.proofs.lemmas.List.{drop-drop}
use Rattle.git_client.specs.Machine.Client.{bytes_used}
use Rattle.git_pkt.specs.Machine.PacketReader.{position_of}
use Rattle.git2show_lib.specs.Machine.Checker.{left_in}
use Rattle.git2show_lib.specs.Machine.Checking.{counted}
use Rattle.git2show_lib.specs.declared.checker.Turn.TheVariants.{Request, Sieved}
use Rattle.git2show_lib.proofs.CheckerStands.{expects_more, over_as, sound_in, stands_as, still_open}
use Rattle.git2show_lib.proofs.CheckerSieves.{none_left, nothing_held, passes_all, passes_further, passing_refused, slice_left, some_left}
use Rattle.git2show_lib.proofs.CheckerSteps.{gathered_on, nothing_gathered}
use Rattle.git2show_lib.proofs.checker.Checker.pass_on.Goals as goal

pub returns-then-is_empty-clause-passes : goal.returns-then-is_empty-clause-passes
returns-then-is_empty-clause-passes g c t limit requests responses lent of s =
    let same = slice_left _ _ _ c.as_slice.ensures.value (sound_in c.args.self.now (Sieved c.args.start) c.requires.turn).3 in
    let none : left_in c.args.self.now ≡ [] = none_left _ _ _ c.is_empty.ensures same c.if-is_empty.true in
    stands_as _ (Sieved c.args.start) c.requires.turn of (s, λ quiet. none)

pub returns-in-Some-clause-passes : goal.returns-in-Some-clause-passes
returns-in-Some-clause-passes g c t limit requests responses lent of s =
    let same = slice_left _ _ _ c.as_slice.ensures.value (sound_in c.args.self.now (Sieved c.args.start) c.requires.turn).3 in
    let some : 0 < length (left_in c.args.self.now) = some_left _ _ _ c.is_empty.ensures same c.if-is_empty.false in
    let step = rw c.in-Some.is at c.gather_chunk-gathered.ensures.gathers in
    let arrives = gathered_on lent _ _ _ c.requires.none_waits step.arrives in
    over_as _ _ false c.refused-self.ensures (still_open c.args.self.now (Sieved c.args.start) c.requires.turn (λ none. absurd (cc))) of
    (rw c.saturating_add.ensures (passing_refused s _ same arrives some c.in-Some.fault step.announced step.shown.not_the_end _ _))

pub returns-then-can_ask-clause-passes : goal.returns-then-can_ask-clause-passes
returns-then-can_ask-clause-passes g c t limit requests responses lent of s =
    let same = slice_left _ _ _ c.as_slice.ensures.value (sound_in c.args.self.now (Sieved c.args.start) c.requires.turn).3 in
    let some : 0 < length (left_in c.args.self.now) = some_left _ _ _ c.is_empty.ensures same c.if-is_empty.false in
    let step = rw c.in_default.is at c.gather_chunk-gathered.ensures.gathers in
    let arrives = gathered_on lent _ _ _ c.requires.none_waits step.arrives in
    let used : 0 < c.gather_chunk-gathered.result.used =
    step.moves (omega (arith, some, ap length same)) (omega (arith, ap length (nothing_gathered c.args.self.now.lines _ c.requires.none_waits))) in
    let now : c.saturating_add-self.result
    ≡ counted (c.args.self.now.passed + (position_of c.args.self.now.packets - (bytes_used c.gather_chunk-gathered.new.client - c.args.start))) =
    search rules in
    stands_as _ Request refl of (
      passes_all s _ same arrives some (sym c.can_ask.ensures.value ∙ c.if-can_ask.true) used step.within step.sound _ now,
      λ some. s.asked.read.alone,
    )

pub returns-else-can_ask-clause-passes : goal.returns-else-can_ask-clause-passes
returns-else-can_ask-clause-passes g c t limit requests responses lent of s =
    let same = slice_left _ _ _ c.as_slice.ensures.value (sound_in c.args.self.now (Sieved c.args.start) c.requires.turn).3 in
    let some : 0 < length (left_in c.args.self.now) = some_left _ _ _ c.is_empty.ensures same c.if-is_empty.false in
    let step = rw c.in_default.is at c.gather_chunk-gathered.ensures.gathers in
    let arrives = gathered_on lent _ _ _ c.requires.none_waits step.arrives in
    let on = passes_further s _ same arrives (expects_more _ _ step.whole (sym c.can_ask.ensures.value ∙ c.if-can_ask.false)) some in
    let now = drop-drop c.gather_chunk-gathered.result.used c.args.self.now.received c.args.self.now.hold.items in
    stands_as _ (Sieved c.args.start) c.requires.turn of
    (rw now at on, λ quiet. nothing_held _ _ _ _ _ _ _ same (step.all on.waits) quiet)

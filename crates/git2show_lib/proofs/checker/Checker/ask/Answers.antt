use Rattle.std.proofs.Common.{arith, ℕ, List, length, drop, Some, refl, sym, ap, ◌∙◌}
use Rattle.git_client.specs.Parts.{Terms}
use Rattle.git2show_lib.specs.OtherLines.{form_asked}
use Rattle.git2show_lib.specs.Machine.KeptLines.{noted_in}
use Rattle.git2show_lib.specs.declared.checker.Turn.TheVariants.{Request, Response, Sieved, Over}
use Rattle.git2show_lib.proofs.CheckerStands.{fits_in, stands_as}
use Rattle.git2show_lib.proofs.CheckerRequests.{asking_refused, lines_asked, receiving_begins, sieving_begins}
use Rattle.git2show_lib.proofs.CheckerSteps.{nothing_gathered}
use Rattle.git2show_lib.proofs.checker.Checker.ask.Goals as goal

pub put_asked-requires : goal.put_asked-requires
put_asked-requires g c =
    omega (arith, ap length (nothing_gathered c.args.self.now.lines (noted_in c.args.self.now.others).lines c.requires.none_waits))

pub returns-in-Err-clause-asks : goal.returns-in-Err-clause-asks
returns-in-Err-clause-asks g c t limit requests responses lines of checking read format =
    stands_as _ (Over _) c.refused-self.ensures of
    (asking_refused c.args.judged checking read c.in-Err.fault format c.in-Err.ensures c.requires.none_waits _ _
    (fits_in c.args.self.now Request c.requires.turn).2)

pub returns-in-None-clause-asks : goal.returns-in-None-clause-asks
returns-in-None-clause-asks g c t limit requests responses lines of checking read format =
    let shown = lines_asked c.args.judged c.args.self.now.lines (noted_in c.args.self.now.others).lines c.requires.none_waits c.put_asked.ensures
    c.command-command.ensures in
    let plain = ap (λ (x : Terms). form_asked x.format (noted_in c.args.judged.others).asks) of.0 ∙ sym c.in-None.ensures in
    stands_as _ Response refl of (receiving_begins c.args.judged checking read c.in_default.ensures.0 c.in_default.ensures.1 shown
    c.no_counts-self.ensures plain)

pub returns-in-Some-clause-asks : goal.returns-in-Some-clause-asks
returns-in-Some-clause-asks g c t limit requests responses lines of checking read format =
    let shown = lines_asked c.args.judged c.args.self.now.lines (noted_in c.args.self.now.others).lines c.requires.none_waits c.put_asked.ensures
    c.command-command.ensures in
    let form_is = ap (λ (x : Terms). form_asked x.format (noted_in c.args.judged.others).asks) of.0 ∙ sym c.in-Some.ensures in
    let sieve_is = form_is ∙ ap Some (sym c.new-self.ensures.form) in
    let left_is = ap (λ (l : List ℕ). drop 0 l) c.clear.ensures in
    let packets = c.new-self-in-Some.ensures in
    let sieving = sieving_begins c.args.judged checking read c.in_default.ensures.0 c.in_default.ensures.1 shown c.args.self.now.offset
    c.no_counts-self.ensures sieve_is
    c.new-self.ensures.spot packets.reads packets.sound packets.gathers left_is c.position-start.ensures.value in
    stands_as _ (Sieved _) refl of (sieving, λ none. left_is)

use Rattle.std.proofs.Common.{sym, ◌∙◌}
use Rattle.git_pkt.specs.Machine.Recorded.{has_ended}
use Rattle.git2show_lib.proofs.Printing.{shows_at, shows_closed, shows_stopped}
use Rattle.git2show_lib.proofs.showing.show_by.Goals as goal

pub returns-in_err-ran-clause-shown : goal.returns-in_err-ran-clause-shown
returns-in_err-ran-clause-shown g c =
    rw c.tally.ensures (shows_at c.run-ran.new.machine (has_ended c.run-ran.new.reader) c.args.turns c.new-shower.ensures.shown c.new-shower.ensures.waits
    c.from_residual.result c.in_err-ran.field-0.0 c.from_residual.ensures.1 c.in_err-ran.ensures.ran)

pub returns-in-Some-clause-shown : goal.returns-in-Some-clause-shown
returns-in-Some-clause-shown g c =
    rw c.tally.ensures (shows_stopped c.run-ran.new.machine (has_ended c.run-ran.new.reader) c.args.turns c.new-shower.ensures.shown
    c.new-shower.ensures.waits c.in-Some.fault c.in_ok-ran.ensures.ran (sym c.fault.ensures ∙ c.in-Some.is))

pub returns-in-None-clause-ok : goal.returns-in-None-clause-ok
returns-in-None-clause-ok g c =
    let shows = shows_closed c.run-ran.new.machine (has_ended c.run-ran.new.reader) c.args.turns c.new-shower.ensures.shown c.new-shower.ensures.waits
    c.in_ok-ran.ensures.ran (sym c.fault.ensures ∙ c.in-None.is) in
    shows.related.shows.ends.2

pub returns-in-None-clause-end : goal.returns-in-None-clause-end
returns-in-None-clause-end g c =
    let shows = shows_closed c.run-ran.new.machine (has_ended c.run-ran.new.reader) c.args.turns c.new-shower.ensures.shown c.new-shower.ensures.waits
    c.in_ok-ran.ensures.ran (sym c.fault.ensures ∙ c.in-None.is) in
    c.run-ran.ensures.at_end shows.related.shows.ends.2

pub returns-in-None-clause-shown : goal.returns-in-None-clause-shown
returns-in-None-clause-shown g c =
    rw c.tally.ensures (shows_closed c.run-ran.new.machine (has_ended c.run-ran.new.reader) c.args.turns c.new-shower.ensures.shown
    c.new-shower.ensures.waits c.in_ok-ran.ensures.ran (sym c.fault.ensures ∙ c.in-None.is))

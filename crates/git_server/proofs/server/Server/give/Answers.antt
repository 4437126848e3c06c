use Rattle.std.proofs.Common.{arith, refl, ap, subst}
use Rattle.git_server.specs.Answers.{error_packet}
use Rattle.git_server.specs.Machine.Phases.{kept_in, most_unsent, stored_in}
use Rattle.git_server.specs.declared.server.Phase.TheVariants.{Answering, Between, Ended}
use Rattle.git_server.proofs.Breaking.{gives_broken}
use Rattle.git_server.proofs.Giving.{gives}
use Rattle.git_server.proofs.Outcomes.{same_state}
use Rattle.git_server.proofs.UnsentPackets.{line_behind, fewer_lines, flush_stays, flush_unasked, is_advertising, is_advertised, is_answering, is_between}
use Rattle.git_server.proofs.UnsentPackets.{last_less, last_is_unsent, part_breaks, part_less, part_is_unsent, whole_advertising}
use Rattle.git_server.proofs.UnsentPackets.{same_outcome, left_stays, refusal_behind, refusal_outcome, refusal_left, none_kept_in_advertising}
use Rattle.git_server.specs.Machine.LatePacks.{HasNoPackUnsentIn}
use Rattle.git_server.proofs.UnsentPackets.{none_unsent_in_advertising, none_stored_in_advertising}
use Rattle.git_server.proofs.server.Server.give.Goals as goal

pub returns-in-Advertising-clause-gives : goal.returns-in-Advertising-clause-gives
returns-in-Advertising-clause-gives g c =
    let old = c.args.self.now in
    let repo = (g.R.Repo.state old.repo).answers in
    let was = is_advertising old.phase c.in-Advertising.line c.in-Advertising.is in
    let is = is_advertised _ c.next.result c.advertising.ensures in
    gives g.R.Repo.state old _ _ c.write.ensures (record { offer = refl; repo = refl; requests = refl })
    (line_behind old.offer repo old.phase c.advertising.result c.in-Advertising.line c.next.result _
    c.in-Advertising.is refl c.next.ensures c.advertising.ensures)
    (λ later may. absurd (whole_advertising c.next.result repo c.advertising.result later c.advertising.ensures may))
    (fewer_lines old.offer repo old.phase c.advertising.result c.in-Advertising.line c.next.result
    c.in-Advertising.is c.next.ensures c.advertising.ensures)
    (same_outcome old.phase _ was is) (left_stays old.phase _ was is)
    (λ packets h. flush_unasked c.next.result _ c.advertising.ensures packets)
    (omega (arith, none_kept_in_advertising c.next.result _ c.advertising.ensures))
    (λ _. omega (arith, none_stored_in_advertising c.next.result _ c.advertising.ensures))
    (λ _. none_unsent_in_advertising c.next.result _ repo c.advertising.ensures)

pub returns-in-Part-clause-gives : goal.returns-in-Part-clause-gives
returns-in-Part-clause-gives g c =
    let old = c.args.self.now in
    let flush = c.in-Answering.flush in
    let answer = c.in-Answering.answer in
    let was = c.in-Answering.is in
    let one = c.in-Part.ensures.writes in
    let repo = (g.R.Repo.state old.repo).answers in
    let other = c.write-in-Answering.new.self in
    let now = Answering other flush in
    let quiet = is_answering old.phase answer flush was in
    let quiet_now = is_answering now other flush refl in
    gives g.R.Repo.state old _ one.packet one.writes
    (record { offer = refl; repo = same_state _ _ one.reads.answers one.reads.failures; requests = refl })
    (part_is_unsent old.offer repo old.phase answer flush one.packet was other one.is_next)
    (part_breaks old.offer repo old.phase answer flush one.packet was other one.is_next)
    (part_less old.offer repo old.phase answer flush one.packet was other one.is_next)
    (same_outcome old.phase now quiet quiet_now) (left_stays old.phase now quiet quiet_now)
    (flush_stays answer flush old.phase other was) (omega (arith, ap kept_in was, c.in-Part.ensures.kept))
    (λ h. omega (arith, h, ap kept_in was, ap stored_in was, c.in-Part.ensures.kept, c.in-Part.ensures.stored))
    (λ none. c.in-Part.ensures.no_pack (subst (HasNoPackUnsentIn repo) was none))

pub returns-in-Whole-clause-gives : goal.returns-in-Whole-clause-gives
returns-in-Whole-clause-gives g c =
    let old = c.args.self.now in
    let flush = c.in-Answering.flush in
    let answer = c.in-Answering.answer in
    let was = c.in-Answering.is in
    let one = c.in-Whole.ensures.writes in
    let repo = (g.R.Repo.state old.repo).answers in
    let quiet = is_answering old.phase answer flush was in
    let quiet_now = is_between Between refl in
    gives g.R.Repo.state old _ one.packet one.writes
    (record { offer = refl; repo = same_state _ _ one.reads.answers one.reads.failures; requests = refl })
    (last_is_unsent old.offer repo old.phase answer flush one.packet was one.is_next)
    (λ later may. absurd may)
    (last_less old.offer repo old.phase answer flush one.packet was)
    (same_outcome old.phase Between quiet quiet_now) (left_stays old.phase Between quiet quiet_now) (λ packets h. tt) (omega arith) (λ _. omega arith)
    (λ _. tt)

pub returns-in-Broken-clause-gives : goal.returns-in-Broken-clause-gives
returns-in-Broken-clause-gives g c =
    let old = c.args.self.now in
    let one = c.in-Broken.ensures.writes in
    gives_broken g.R.Repo.state old _ one.packet c.in-Answering.answer c.in-Answering.flush one.writes refl refl c.in-Answering.is
    (ap Ended c.without_pack.ensures) one.reads one.is_next

pub returns-in-Refusing-clause-gives : goal.returns-in-Refusing-clause-gives
returns-in-Refusing-clause-gives g c =
    let old = c.args.self.now in
    let repo = (g.R.Repo.state old.repo).answers in
    gives g.R.Repo.state old _ (error_packet c.in-Refusing.fault) c.write_error.ensures (record { offer = refl; repo = refl; requests = refl })
    (refusal_behind old.offer repo old.phase c.in-Refusing.fault _ c.in-Refusing.is refl)
    (λ later may. absurd may)
    (omega (arith, ap (most_unsent old.offer repo) c.in-Refusing.is))
    (refusal_outcome old.phase c.in-Refusing.fault c.in-Refusing.is)
    (refusal_left old.phase c.in-Refusing.fault c.in-Refusing.is) (λ packets h. tt) (omega arith) (λ _. omega arith) (λ _. tt)

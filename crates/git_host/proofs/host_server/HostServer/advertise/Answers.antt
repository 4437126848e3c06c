use Rattle.std.proofs.Common.{arith, ap, subst, sym, ◌++◌, ◌∙◌}
use Rattle.git_msg.specs.Machine.RequestStreams.{hold_of}
use Rattle.git_host.specs.HostServer.{HostsIn, LeadsTo, fault_in}
use Rattle.git_host.specs.declared.host_server.Phase.{Phase}
use Rattle.git_msg.specs.declared.offers.Offer.{Offer}
use Rattle.git_server.specs.Answers.{advertisement_of, spelled}
use Rattle.git_host.proofs.HostFaults.{quiet_fault, same_fault}
use Rattle.git_host.proofs.HostMoves.{advertised_now}
use Rattle.git_host.proofs.HostCredits.{advertising_credit, credit_falls, lent_credit, unlent_credit}
use Rattle.git_host.proofs.LentStreams.{none_lent, on_some}
use Rattle.git_host.proofs.LentStreams.{lent_within}
use Rattle.git_host.proofs.host_server.HostServer.advertise.Goals as goal

pub returns-clause-steps : goal.returns-clause-steps
returns-clause-steps g c s used over reported given h =
    let old = c.args.self.now in
    let w = c.put_advertisement.new.hold in
    let lent = on_some c.lend.result c.in-Some.hold _ c.in-Some.is (c.lend.follows.holds w) in
    let stands = subst (λ (p : Phase g.row.A.Denot). HostsIn p s used over reported given old.stream old.flush) c.requires h.stands in
    let (is, handed) = advertised_now s used over reported given (c.lend.follows.lender w) old.stream w lent
    (omega (arith, c.len.ensures.value, c.len.ensures.fits))
    (c.put_advertisement.ensures.written ∙ ap (λ (o : Offer). spelled (advertisement_of o)) h.offer) stands in
    let within = lent_within old.stream w (c.lend.follows.lender w) lent s h.reads_within in (
      record {
        offer = h.offer;
        limit = h.limit;
        reads_within = within;
        stands = subst (λ (p : Phase g.row.A.Denot). HostsIn p s used over reported (given ++ hold_of (c.lend.follows.lender w))
            (c.lend.follows.lender w) old.flush) (sym c.move_to.ensures) is;
      },
      handed,
      subst (λ (p : Phase g.row.A.Denot). LeadsTo p c.move_to.new.self) (sym c.requires) c.move_to.ensures,
    )

pub returns-clause-credit : goal.returns-clause-credit
returns-clause-credit g c =
    let w = c.put_advertisement.new.hold in
    let lent = on_some c.lend.result c.in-Some.hold _ c.in-Some.is (c.lend.follows.holds w) in
    credit_falls c.move_to.new.self c.args.self.now (c.lend.follows.lender w) (advertising_credit c.args.self.now c.requires)
    (lent_credit c.args.self.now.stream w (c.lend.follows.lender w) lent)

pub returns-in_default-clause-steps : goal.returns-in_default-clause-steps
returns-in_default-clause-steps g c s used over reported given h =
    let old = c.args.self.now in
    let stands = subst (λ (p : Phase g.row.A.Denot). HostsIn p s used over reported given old.stream old.flush) c.requires h.stands in
    absurd (none_lent c.lend.result c.in_default.is (c.lend.ensures.between.1 stands.between))

pub returns-in_default-clause-credit : goal.returns-in_default-clause-credit
returns-in_default-clause-credit g c =
    let old = c.args.self.now in
    credit_falls old.phase old c.lend.follows.lender-at-none (advertising_credit old c.requires)
    (unlent_credit old.stream c.lend.follows.lender-at-none c.lend.result c.in_default.is c.lend.follows.holds-at-none)

pub returns-in_default-clause-fault : goal.returns-in_default-clause-fault
returns-in_default-clause-fault g c s used over reported given h = same_fault (fault_in c.args.self.now.phase)

pub returns-clause-fault : goal.returns-clause-fault
returns-clause-fault g c s used over reported given h =
    quiet_fault c.args.self.now.phase c.move_to.new.self (ap fault_in c.requires) (ap fault_in c.move_to.ensures)

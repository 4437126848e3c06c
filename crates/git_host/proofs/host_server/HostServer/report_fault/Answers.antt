use Rattle.std.proofs.Common.{arith, ap, subst, sym, ◌++◌}
use Rattle.git_msg.specs.Machine.RequestStreams.{hold_of}
use Rattle.git_host.specs.HostServer.{HostsIn, IsFaultAfter, LeadsTo, credit_in, fault_in}
use Rattle.git_host.specs.HostStates.{is_over_in}
use Rattle.git_host.specs.declared.host_server.Phase.{Phase}
use Rattle.git_host.proofs.HostFaults.{same_fault}
use Rattle.git_host.proofs.HostMoves.{fault_reported}
use Rattle.git_host.proofs.LentStreams.{none_lent, on_some}
use Rattle.git_host.proofs.HostCredits.{refused_free}
use Rattle.git_host.proofs.LentStreams.{lent_within}
use Rattle.git_host.proofs.host_server.HostServer.report_fault.Goals as goal

pub returns-clause-steps : goal.returns-clause-steps
returns-clause-steps g c s used over reported given h =
    let old = c.args.self.now in
    let w = c.put_error.new.hold in
    let lent = on_some c.lend.result c.in-Some.hold _ c.in-Some.is (c.lend.follows.holds w) in
    let stands = subst (λ (p : Phase g.row.A.Denot). HostsIn p s used over reported given old.stream old.flush) c.requires h.stands in
    let (is, handed) = fault_reported s used over reported given (c.lend.follows.lender w) old.stream w c.args.fault lent
    (omega (arith, c.len.ensures.value, c.len.ensures.fits)) c.put_error.ensures stands in
    let within = lent_within old.stream w (c.lend.follows.lender w) lent s h.reads_within in (
      record {
        offer = h.offer;
        limit = h.limit;
        reads_within = within;
        stands = subst (λ (p : Phase g.row.A.Denot). HostsIn p s used over reported (given ++ hold_of (c.lend.follows.lender w))
            (c.lend.follows.lender w) old.flush) (sym c.move_to.ensures) is;
      },
      handed,
      subst (λ (p : Phase g.row.A.Denot). LeadsTo p c.move_to.new.self) (sym c.requires) c.move_to.ensures,
    )

pub returns-in_default-clause-steps : goal.returns-in_default-clause-steps
returns-in_default-clause-steps g c s used over reported given h =
    let old = c.args.self.now in
    let stands = subst (λ (p : Phase g.row.A.Denot). HostsIn p s used over reported given old.stream old.flush) c.requires h.stands in
    absurd (none_lent c.lend.result c.in_default.is (c.lend.ensures.between.1 stands.between))

pub returns-in_default-clause-credit : goal.returns-in_default-clause-credit
returns-in_default-clause-credit g c = refused_free c.args.self.now c.args.self.now.phase c.lend.follows.lender-at-none c.args.fault c.requires

pub returns-in_default-clause-fault : goal.returns-in_default-clause-fault
returns-in_default-clause-fault g c s used over reported given h = same_fault (fault_in c.args.self.now.phase)

pub returns-in_default-clause-over : goal.returns-in_default-clause-over
returns-in_default-clause-over g c = ap is_over_in c.requires

pub returns-clause-credit : goal.returns-clause-credit
returns-clause-credit g c = omega (arith, ap (λ (p : Phase g.row.A.Denot). credit_in p (c.lend.follows.lender c.put_error.new.hold)) c.move_to.ensures)

pub returns-clause-fault : goal.returns-clause-fault
returns-clause-fault g c s used over reported given h =
    subst (λ (p : Phase g.row.A.Denot). IsFaultAfter (fault_in p) (fault_in c.move_to.new.self)) (sym c.requires) (ap fault_in c.move_to.ensures)

pub returns-clause-over : goal.returns-clause-over
returns-clause-over g c = ap is_over_in c.move_to.ensures

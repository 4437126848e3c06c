use Rattle.std.proofs.Common.{arith, ap, refl, subst, sym, ◌++◌, ◌∙◌}
use Rattle.git_pkt.specs.declared.fault.Kind.TheVariants.{NotOurs}
use Rattle.git_msg.specs.Machine.RequestStreams.{hold_of}
use Rattle.git_server.specs.declared.outcome.Outcome.{Outcome}
use Rattle.git_host.specs.HostServer.{HostsIn, credit_in, fault_in}
use Rattle.git_host.specs.HostSessions.{refusal_packet}
use Rattle.git_host.specs.declared.host_server.Phase.{Phase}
use Rattle.git_host.specs.declared.host_server.Phase.TheVariants.{Ended}
use Rattle.git_host.proofs.HostFaults.{host_fault, same_fault}
use Rattle.git_host.proofs.HostCredits.{asked_credit, credit_falls, unlent_credit}
use Rattle.git_host.proofs.HostRequests.{asked_is, refuses_hosts}
use Rattle.git_host.proofs.LentStreams.{none_lent, on_some}
use Rattle.git_host.proofs.LentStreams.{lent_bytes, lent_handed, lent_within, packet_some}
use Rattle.git_host.proofs.host_server.HostServer.refuse.Goals as goal

pub returns-clause-refuses : goal.returns-clause-refuses
returns-clause-refuses g c =
    let old = c.args.self.now in
    let w = c.put_line.new.hold in
    let new = c.lend.follows.lender w in
    let lent = on_some c.lend.result c.in-Some.hold _ c.in-Some.is (c.lend.follows.holds w) in
    let to = c.move_to.ensures ∙ ap Ended c.ended_by.ensures in
    let asked = sym c.is_asked.ensures ∙ c.if-not-is_asked.false in (
      to,
      lent_bytes old.stream w new lent ∙ c.put_line.ensures.written,
      lent_handed old.stream w new lent (packet_some w.items (refusal_packet c.args.text.now) c.put_line.ensures.written)
          (omega (arith, c.len.ensures.value, c.len.ensures.fits)),
      λ s used over reported given h.
          record {
            offer = h.offer;
            limit = h.limit;
            reads_within = lent_within old.stream w new lent s h.reads_within;
            stands = subst (λ (p : Phase g.row.A.Denot). HostsIn p s used over reported (given ++ hold_of new) new old.flush) (sym to)
                (refuses_hosts s used over reported given old new w lent (omega (arith, c.len.ensures.value, c.len.ensures.fits))
                c.args.text.now asked c.put_line.ensures.written h);
          },
    )

pub returns-in_default-clause-refuses : goal.returns-in_default-clause-refuses
returns-in_default-clause-refuses g c =
    let old = c.args.self.now in
    let asked = sym c.is_asked.ensures ∙ c.if-not-is_asked.false in
    let (request, phase) = asked_is old.phase asked in (
      λ s used over reported given h.
          let stands = subst (λ (p : Phase g.row.A.Denot). HostsIn p s used over reported given old.stream old.flush) phase h.stands in
          absurd (none_lent c.lend.result c.in_default.is (c.lend.ensures.between.1 stands.between)),
      λ s used over reported given h fits.
          let stands = subst (λ (p : Phase g.row.A.Denot). HostsIn p s used over reported given old.stream old.flush) phase h.stands in
          absurd (none_lent c.lend.result c.in_default.is (c.lend.ensures.between.1 stands.between)),
    )

pub returns-in_default-clause-credit : goal.returns-in_default-clause-credit
returns-in_default-clause-credit g c =
    let old = c.args.self.now in
    credit_falls old.phase old c.lend.follows.lender-at-none (asked_credit old (sym c.is_asked.ensures ∙ c.if-not-is_asked.false))
    (unlent_credit old.stream c.lend.follows.lender-at-none c.lend.result c.in_default.is c.lend.follows.holds-at-none)

pub returns-in_default-clause-fault : goal.returns-in_default-clause-fault
returns-in_default-clause-fault g c s used over reported given h = same_fault (fault_in c.args.self.now.phase)

pub returns-clause-credit : goal.returns-clause-credit
returns-clause-credit g c =
    omega (arith, ap (λ (p : Phase g.row.A.Denot). credit_in p (c.lend.follows.lender c.put_line.new.hold)) (c.move_to.ensures ∙ ap Ended c.ended_by.ensures))

pub returns-clause-fault : goal.returns-clause-fault
returns-clause-fault g c s used over reported given h =
    let old = c.args.self.now in
    let (request, phase) = asked_is old.phase (sym c.is_asked.ensures ∙ c.if-not-is_asked.false) in
    host_fault old.phase c.move_to.new.self (ap fault_in phase) (record { kind = NotOurs; offset = old.flush })
    (ap fault_in c.move_to.ensures ∙ ap (λ (o : Outcome). fault_in {A = g.row.A.Denot} (Ended o)) c.ended_by.ensures) refl

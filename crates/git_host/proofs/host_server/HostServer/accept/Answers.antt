use Rattle.std.proofs.Common.{ap, refl, subst, sym, ◌∙◌}
use Rattle.git_host.specs.HostServer.{IsAccepted, IsFaultAfter, fault_in, is_asked}
use Rattle.git_host.specs.declared.host_server.Phase.{Phase}
use Rattle.git_host.specs.declared.host_server.Phase.TheVariants.{Asked as Whole}
use Rattle.git_host.proofs.HostRequests.{accepted_hosts, asked_is}
use Rattle.git_host.proofs.HostCredits.{asked_credit, credit_falls}
use Rattle.git_host.proofs.host_server.HostServer.accept.Goals as goal

pub returns-clause-accepts : goal.returns-clause-accepts
returns-clause-accepts g c =
    let asked = sym c.is_asked.ensures ∙ c.if-not-is_asked.false in
    let (answered, hosts) = accepted_hosts c.args.self.now c.replace-phase.result c.move_to.new.self c.replace-phase.ensures.value asked
    (subst (λ (p : Phase g.row.A.Denot). IsAccepted c.args.self.now.offer.format c.replace-phase.result p) (sym c.move_to.ensures) c.accepted.ensures) in (
      asked,
      ap is_asked answered.1,
      λ s used over reported given h. record { offer = h.offer; limit = h.limit; reads_within = h.reads_within; stands = hosts s used over reported given h },
    )

pub returns-clause-credit : goal.returns-clause-credit
returns-clause-credit g c = credit_falls c.move_to.new.self c.args.self.now c.args.self.now.stream
    (asked_credit c.args.self.now (sym c.is_asked.ensures ∙ c.if-not-is_asked.false)) refl

pub returns-clause-fault : goal.returns-clause-fault
returns-clause-fault g c s used over reported given h =
    let asked = sym c.is_asked.ensures ∙ c.if-not-is_asked.false in
    let (request, phase) = asked_is c.args.self.now.phase asked in
    let (answered, hosts) = accepted_hosts c.args.self.now c.replace-phase.result c.move_to.new.self c.replace-phase.ensures.value asked
    (subst (λ (p : Phase g.row.A.Denot). IsAccepted c.args.self.now.offer.format c.replace-phase.result p) (sym c.move_to.ensures) c.accepted.ensures) in
    subst (λ (p : Phase g.row.A.Denot). IsFaultAfter (fault_in p) (fault_in c.move_to.new.self)) (sym phase)
    (subst (λ (p : Phase g.row.A.Denot). IsFaultAfter (fault_in (Whole request)) (fault_in p)) (sym answered.1) tt)

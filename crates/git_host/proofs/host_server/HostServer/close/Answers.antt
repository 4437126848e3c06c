use Rattle.std.proofs.Common.{arith, Result, true, subst, sym, ◌∙◌}
use Rattle.git_pkt.specs.declared.fault.Fault.{Fault}
use Rattle.git_msg.specs.Machine.RequestStreams.{Closes}
use Rattle.git_host.specs.HostServer.{HostsIn}
use Rattle.git_host.specs.declared.host_server.Phase.{Phase}
use Rattle.git_host.proofs.HostBytes.{cut_off, is_reading_now, quiet_now, stopped_hosts}
use Rattle.git_host.proofs.HostCredits.{stopped_credit}
use Rattle.git_host.proofs.host_server.HostServer.close.Goals as goal

pub returns-in-Err-clause-closes : goal.returns-in-Err-clause-closes
returns-in-Err-clause-closes g c =
    let old = c.args.self.now in
    let on = sym c.wants_input.ensures ∙ c.if-not-wants_input.false in
    let closes = subst (λ (r : Result (Unit {0}) Fault). Closes r old.stream c.close.new.self) c.in-Err.is c.close.ensures in (
      on,
      quiet_now _ c.stop.new.self c.in-Err.fault c.stop.ensures,
      λ s used over reported given h.
          let stands = subst (λ (p : Phase g.row.A.Denot). HostsIn p s used over reported given old.stream old.flush) (is_reading_now old on) h.stands in
          stopped_hosts _ c.stop.new.self c.in-Err.fault c.stop.ensures s used true reported given h.offer h.limit
          (cut_off s used over reported given old.stream c.close.new.self c.in-Err.fault stands closes),
    )

pub returns-in-Err-clause-credit : goal.returns-in-Err-clause-credit
returns-in-Err-clause-credit g c = omega (arith, stopped_credit _ c.stop.new.self c.in-Err.fault c.stop.ensures)
